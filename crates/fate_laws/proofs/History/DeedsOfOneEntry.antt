-- What a shard did, by one entry more.
use Rattle.std.proofs.Common.{◌≡◌, inl, inr, ⊎_elim, refl, ap, ◌∙◌, ℕ, true, false, cond, Bool, List, [], ◌∷◌, ◌++◌, Option, Some, None, ◌==◌}
use Rattle.std.proofs.lemmas.Bool.{both_ways, or_cases, eq-eqb, or_left, or_right}
use Rattle.clv_base.specs.declared.names.TxId.{TxId}
use Rattle.clv_base.specs.declared.logs.LogRecord.{LogRecord}
use Rattle.clv_base.specs.declared.events.Event.TheVariants.{Request as RequestEvent}
use Rattle.clv_base.specs.declared.events.Entry.{Entry}
use Rattle.clv_base.specs.Orders.{tx_same, tx_in}
use Rattle.clv_base.specs.LogRules.{log_of}
use Rattle.clv_base.specs.State.{Shard}
use Rattle.clv_base.specs.Journals.{History, journal_of, start_of, after_entry, after_entries}
use Rattle.clv_base.specs.History.{request_of, state_before}
use Rattle.clv_base.proofs.SameNames.{tx_true, tx_self}
use Rattle.history_cases.proofs.Merging.{Placed, Among}
use Rattle.history_cases.proofs.Telling.{IsRequest}
use Rattle.history_laws.proofs.NeverTakenBack.{is_request}
use Rattle.history_cases.proofs.Worlds.{journal_append, other_journal}
use Rattle.fate_laws.specs.Leading.{deeds_with, deeds_after, own_deeds, requests_of}
use Rattle.shard_laws.specs.OneShard.{Deeds, no_deeds}

-- ---- a shard's own entry, and another's

pub deeds_push : (log : List LogRecord) (d : Deeds) (s : Shard) (es : List Entry) (e : Entry) → deeds_after log d s (es ++ e ∷ []) ≡ deeds_with (deeds_after log d s es) (after_entries log s es) (after_entry log (after_entries log s es) e) e
deeds_push log d s [] e = refl
deeds_push log d s (x ∷ xs) e = deeds_push log (deeds_with d s (after_entry log s x) x) (after_entry log s x) xs e

own_journal : (n : ℕ) (e : Entry) (pre : History) → journal_of n (pre ++ (n, e) ∷ []) ≡ journal_of n pre ++ e ∷ []
own_journal n e pre = journal_append n pre ((n, e) ∷ []) ∙ ap (λ l. journal_of n pre ++ l) (at (n == n) (eq-eqb n n refl))
  where
    at : (b : Bool) → b ≡ true → cond b (e ∷ []) [] ≡ e ∷ []
    at true q = refl
    at false q = absurd (both_ways false refl q)

pub deeds_own : (before after : List (List LogRecord)) (n : ℕ) (e : Entry) (pre : History)
    → own_deeds before (pre ++ (n, e) ∷ []) after n ≡ deeds_with (own_deeds before pre after n) (state_before before pre after n) (after_entry (log_of after n) (state_before before pre after n) e) e
deeds_own before after n e pre =
    ap (deeds_after (log_of after n) no_deeds (start_of before n)) (own_journal n e pre) ∙ deeds_push (log_of after n) no_deeds (start_of before n) (journal_of n pre) e

pub deeds_other : (before after : List (List LogRecord)) (n : ℕ) (y : Placed) (pre : History) → (y.0 == n) ≡ false → own_deeds before (pre ++ y ∷ []) after n ≡ own_deeds before pre after n
deeds_other before after n y pre b = ap (deeds_after (log_of after n) no_deeds (start_of before n)) (other_journal n y pre b)

pub state_other : (before after : List (List LogRecord)) (n : ℕ) (y : Placed) (pre : History) → (y.0 == n) ≡ false → state_before before (pre ++ y ∷ []) after n ≡ state_before before pre after n
state_other before after n y pre b = ap (after_entries (log_of after n) (start_of before n)) (other_journal n y pre b)

-- ---- requests

pub requests_push : (xs : History) (y : Placed) → requests_of (xs ++ y ∷ []) ≡ requests_of xs ++ requests_of (y ∷ [])
requests_push [] y = refl
requests_push (x ∷ xs) y = at (request_of (x.1).event (x.1).outcome) (requests_push xs y)
  where
    at : (o : Option TxId) → requests_of (xs ++ y ∷ []) ≡ requests_of xs ++ requests_of (y ∷ [])
        → ◌≡◌ {A = List TxId} (elim o [ Some t ↦ t ∷ requests_of (xs ++ y ∷ []) | None ↦ requests_of (xs ++ y ∷ []) ]) (elim o [ Some t ↦ t ∷ requests_of xs | None ↦ requests_of xs ] ++ requests_of (y ∷ []))
    at None e = e
    at (Some t) e = ap (λ l. t ∷ l) e

-- who is among them made one, and who made one is among them
pub made_request : (pre : History) (t : TxId) → tx_in t (requests_of pre) ≡ true → (y : Placed) × (ts : List (ℕ × ℕ)) × Among y pre × IsRequest t ts y
made_request [] t i = absurd (both_ways false refl i)
made_request (e ∷ es) t i = at (request_of (e.1).event (e.1).outcome) refl i (made_request es t)
  where
    later : (y : Placed) × (ts : List (ℕ × ℕ)) × Among y es × IsRequest t ts y → (y : Placed) × (ts : List (ℕ × ℕ)) × Among y (e ∷ es) × IsRequest t ts y
    later (r, ts, j, q) = (r, ts, inr j, q)

    at : (o : Option TxId) → request_of (e.1).event (e.1).outcome ≡ o → tx_in t (elim o [ Some u ↦ u ∷ requests_of es | None ↦ requests_of es ]) ≡ true
        → (tx_in t (requests_of es) ≡ true → (y : Placed) × (ts : List (ℕ × ℕ)) × Among y es × IsRequest t ts y) → (y : Placed) × (ts : List (ℕ × ℕ)) × Among y (e ∷ es) × IsRequest t ts y
    at None q j k = later (k j)
    at (Some u) q j k =
        ⊎_elim
        (λ a. let r = is_request t (e.1).event (e.1).outcome (q ∙ ap (λ z. Some z) (tx_true u t a)) in (e, r.0, inl refl, (r.1, r.2)))
        (λ a. later (k a))
        (or_cases (tx_same u t) (tx_in t (requests_of es)) j)

pub request_is_in : (pre : History) (t : TxId) (y : Placed) (ts : List (ℕ × ℕ)) → Among y pre → IsRequest t ts y → tx_in t (requests_of pre) ≡ true
request_is_in [] t y ts i q = elim i [ ]
request_is_in (e ∷ es) t y ts (inl j) q = at (request_of (e.1).event (e.1).outcome) (ap (λ z. request_of (z.1).event (z.1).outcome) j ∙ ap (λ z. request_of z (y.1).outcome) q.0 ∙ ap (request_of (RequestEvent t ts)) q.1)
  where
    at : (o : Option TxId) → o ≡ Some t → tx_in t (elim o [ Some u ↦ u ∷ requests_of es | None ↦ requests_of es ]) ≡ true
    at None f = absurd cc
    at (Some u) f = or_left (tx_same u t) (tx_in t (requests_of es)) (same u f)
      where
        same : (u : TxId) → Some u ≡ Some t → tx_same u t ≡ true
        same u f = subst_self u (inner u f)
          where
            inner : (u : TxId) → Some u ≡ Some t → t ≡ u
            inner u f = cc

            subst_self : (u : TxId) → t ≡ u → tx_same u t ≡ true
            subst_self u g = ap (tx_same u) g ∙ tx_self u
request_is_in (e ∷ es) t y ts (inr j) q = at (request_of (e.1).event (e.1).outcome) (request_is_in es t y ts j q)
  where
    at : (o : Option TxId) → tx_in t (requests_of es) ≡ true → tx_in t (elim o [ Some u ↦ u ∷ requests_of es | None ↦ requests_of es ]) ≡ true
    at None f = f
    at (Some u) f = or_right (tx_same u t) (tx_in t (requests_of es)) f

-- Where nothing is unsettled, each member was told so.
use Rattle.std.proofs.Common.{◌≡◌, ◌⊎◌, inl, inr, refl, sym, ap, ap₂, subst, ◌∙◌, ℕ, ◌<◌, Bool, true, false, cond, ◌&&◌, ◌||◌, List, [], ◌∷◌, map, Option, Some, None, arith}
use Rattle.std.proofs.lemmas.Bool.{both_ways, or_cases, false_from_ne_true}
use Rattle.clv_base.specs.declared.names.TxId.{TxId}
use Rattle.clv_base.specs.declared.causes.AbortCause.{AbortCause}
use Rattle.clv_base.specs.declared.logs.LogRecord.{LogRecord}
use Rattle.clv_base.specs.declared.events.Event.{Event}
use Rattle.clv_base.specs.declared.events.Event.TheVariants.{Look}
use Rattle.clv_base.specs.declared.events.Outcome.{Outcome}
use Rattle.clv_base.specs.declared.events.Outcome.TheVariants.{Acknowledged, Aborted}
use Rattle.clv_base.specs.Orders.{tx_same, tx_in}
use Rattle.clv_base.specs.Shards.{shard_count}
use Rattle.clv_base.specs.Logs.{committed_in}
use Rattle.clv_base.specs.LogRules.{log_of}
use Rattle.clv_base.specs.Restarts.{run_after}
use Rattle.clv_base.specs.Journals.{History, own}
use Rattle.clv_base.specs.History.{Legal, is_acknowledgement, acknowledged_in, request_of, members, logs_left, Member, acts_in}
use Rattle.clv_base.specs.Sessions.{SessionState, no_session, looked, stands_at, session_after, makes_from}
use Rattle.clv_base.proofs.SameNames.{tx_true, tx_self}
use Rattle.history_laws.specs.Openings.{LegalFrom}
use Rattle.history_laws.specs.Outcomes.{is_abort, aborted_in_history}
use Rattle.history_laws.proofs.NeverTakenBack.{is_request, together_by_walker}
use Rattle.history_laws.proofs.NeverTakenBack.LaterHistoriesHoldMembers.{any_among}
use Rattle.history_cases.proofs.Merging.{Placed, Among}
use Rattle.history_cases.proofs.Telling.{IsRequest}
use Rattle.fate_laws.specs.Members.{is_member}
use Rattle.fate_laws.specs.Aborts.{AbortedAreCommittedNowhere}
use Rattle.session_books.specs.Told.{is_tx, looked_by, has_look}
use Rattle.session_books.specs.Counts.{counts_in}
use Rattle.history_cases.proofs.Worlds.{all_in}
use Rattle.audit_laws.proofs.AllAreTold.{any_true, is_unsettled}

-- ---- whose request a member is

abbrev is_in : List (List LogRecord) → History → ℕ → TxId → Bool
is_in logs h n t = committed_in (log_of logs n) t || acknowledged_in h t

abbrev InBy : List (List LogRecord) → History → History → TxId → Type 0
InBy logs h es t = (x : Placed) × (ts : List (ℕ × ℕ)) × Among x es × IsRequest t ts x × (is_in logs h x.0 t ≡ true)

abbrev member_by : List (List LogRecord) → History → Placed → List Member → Option TxId → List Member
member_by logs h x ms None = ms
member_by logs h x ms (Some u) = cond (committed_in (log_of logs x.0) u || acknowledged_in h u) (record { tx = u; point = record { stamp = (x.1).stamp; shard = x.0 }; acts = acts_in u h } ∷ ms) ms

member_is : (logs : List (List LogRecord)) (h : History) (x : Placed) (xs : History) → members logs h (x ∷ xs) ≡ member_by logs h x (members logs h xs) (request_of (x.1).event (x.1).outcome)
member_is logs h x xs = at (request_of (x.1).event (x.1).outcome)
  where
    at : (o : Option TxId)
        → elim o [
          | Some u ↦ cond (committed_in (log_of logs x.0) u || acknowledged_in h u) (record { tx = u; point = record { stamp = (x.1).stamp; shard = x.0 }; acts = acts_in u h } ∷ members logs h xs) (members logs h xs)
          | None ↦ members logs h xs
        ] ≡ member_by logs h x (members logs h xs) o
    at None = refl
    at (Some u) = refl

in_by_request :
    (logs : List (List LogRecord)) (h : History) (x : Placed) (xs : History) (t : TxId) (o : Option TxId) → request_of (x.1).event (x.1).outcome ≡ o
    → (tx_in t (map (λ (k : Member). k.tx) (members logs h xs)) ≡ true → InBy logs h xs t)
    → tx_in t (map (λ (k : Member). k.tx) (member_by logs h x (members logs h xs) o)) ≡ true → InBy logs h (x ∷ xs) t
in_by_request logs h x xs t None f rec i = (let k = rec i in (k.0, k.1, inr k.2, k.3, k.4))
in_by_request logs h x xs t (Some u) f rec i = by (is_in logs h x.0 u) refl rec i
  where
    here : is_in logs h x.0 u ≡ true → u ≡ t → InBy logs h (x ∷ xs) t
    here g same =
        let r = is_request t (x.1).event (x.1).outcome (f ∙ ap (λ (z : TxId). Some z) same) in
        (x, r.0, inl refl, (r.1, r.2), subst (λ (z : TxId). is_in logs h x.0 z ≡ true) same g)

    later : InBy logs h xs t → InBy logs h (x ∷ xs) t
    later k = (k.0, k.1, inr k.2, k.3, k.4)

    by : (c : Bool) → is_in logs h x.0 u ≡ c → (tx_in t (map (λ (k : Member). k.tx) (members logs h xs)) ≡ true → InBy logs h xs t)
        → tx_in t (map (λ (k : Member). k.tx) (cond c (record { tx = u; point = record { stamp = (x.1).stamp; shard = x.0 }; acts = acts_in u h } ∷ members logs h xs) (members logs h xs))) ≡ true → InBy logs h (x ∷ xs) t
    by false g rec i = later (rec i)
    by true g rec i = elim (or_cases (tx_same u t) (tx_in t (map (λ (k : Member). k.tx) (members logs h xs))) i) [ inl same ↦ here g (tx_true u t same) | inr more ↦ later (rec more) ]

in_by : (logs : List (List LogRecord)) (h es : History) (t : TxId) → tx_in t (map (λ k. k.tx) (members logs h es)) ≡ true → InBy logs h es t
in_by logs h [] t e = absurd (both_ways false refl e)
in_by logs h (x ∷ xs) t e =
    in_by_request logs h x xs t (request_of (x.1).event (x.1).outcome) refl (in_by logs h xs t) (subst (λ (ms : List Member). tx_in t (map (λ (k : Member). k.tx) ms) ≡ true) (member_is logs h x xs) e)

-- ---- a look tells of success or of an abort

abbrev IsTold : Outcome → Type 0
IsTold o = (o ≡ Acknowledged) ⊎ ((cause : AbortCause) × (o ≡ Aborted cause))

look_tells : (splits : List ℕ) (es : List Placed) (s : SessionState) (q : Placed) (t : TxId) → makes_from splits (Some s) es ≡ true → Among q es → (q.1).event ≡ Look t → IsTold (q.1).outcome
look_tells splits [] s q t h i e = elim i [ ]
look_tells splits (z ∷ zs) s q t h (inl same) e =
    subst (λ (w : Placed). IsTold (w.1).outcome) same
    (by (tx_same t s.tx && stands_at z.0 s.phase) (z.1).outcome (subst (λ (ev : Event). makes_from splits (session_after splits z.0 s ev (z.1).outcome) zs ≡ true) (ap (λ (w : Placed). (w.1).event) same ∙ e) h))
  where
    by : (c : Bool) (o : Outcome) → makes_from splits (cond c (looked s o) None) zs ≡ true → IsTold o
    by false o k = absurd (both_ways false refl k)
    by true Acknowledged k = inl refl
    by true (Aborted cause) k = inr (cause, refl)
    by true _ k = absurd (both_ways false refl k)
look_tells splits (z ∷ zs) s q t h (inr i) e = at (session_after splits z.0 s (z.1).event (z.1).outcome) h (λ u k. look_tells splits zs u q t k i e)
  where
    at : (v : Option SessionState) → makes_from splits v zs ≡ true → ((u : SessionState) → makes_from splits (Some u) zs ≡ true → IsTold (q.1).outcome) → IsTold (q.1).outcome
    at None k rec = absurd (both_ways false refl k)
    at (Some u) k rec = rec u k

look_of : (t : TxId) (e : Event) → is_tx t (looked_by e) ≡ true → e ≡ Look t
look_of t (Look tx) k = ap Look (sym (tx_true t tx k))
look_of t _ k = absurd (both_ways false refl k)

module _ (aborted_nowhere : AbortedAreCommittedNowhere) (splits : List ℕ) (before : List (List LogRecord)) (h : History) (after : List (List LogRecord)) (choice : ℕ → Bool) (legal : LegalFrom splits before h after) where
  abbrev l : Legal splits before h after
  l = legal.legal

  -- what a look tells
  looked_at :
      (t : TxId) (q : Placed) → Among q h → (q.1).event ≡ Look t → aborted_in_history h t ≡ false → IsTold (q.1).outcome → acknowledged_in h t ≡ true
  looked_at t q i look unaborted (inl acked) = any_true (λ (e : Placed). is_acknowledgement t (e.1).event (e.1).outcome) h q i (ap₂ (is_acknowledgement t) look acked ∙ tx_self t)
  looked_at t q i look unaborted (inr (cause, aborted)) =
      absurd (both_ways _ unaborted (any_true (λ (e : Placed). is_abort t (e.1).event (e.1).outcome) h q i (ap₂ (is_abort t) look aborted ∙ tx_self t)))

  seen_or_not : (t : TxId) (ts : List (ℕ × ℕ)) (x : Placed) → Among x h → IsRequest t ts x → aborted_in_history h t ≡ false → (counts_in h h).unsettled ≡ 0 → (b : Bool) → has_look t h ≡ b → acknowledged_in h t ≡ true
  seen_or_not t ts x ix request unaborted settled false unseen = absurd (let some = is_unsettled splits before h after l t ts x ix request unaborted unseen in omega (arith, some, settled))
  seen_or_not t ts x ix request unaborted settled true seen =
      let found = any_among (λ (e : Placed). is_tx t (looked_by (e.1).event)) h seen in
      let q = found.0 in
      let look = look_of t (q.1).event found.2 in
      let c = together_by_walker splits before after h q q l found.1 found.1 refl in
      looked_at t q found.1 look unaborted (look_tells splits (own (q.1).walker h) (no_session (run_after before) (q.1).walker) q t c.session c.first look)

  pub members_are_acknowledged : (counts_in h h).unsettled ≡ 0 → (t : TxId) → is_member splits before h after choice t ≡ true → acknowledged_in h t ≡ true
  members_are_acknowledged settled t member =
      let k = in_by (logs_left splits before h after choice) h h t member in
      let x = k.0 in
      elim (or_cases (committed_in (log_of (logs_left splits before h after choice) x.0) t) (acknowledged_in h t) k.4) [
        | inl left ↦
            let shard : x.0 < shard_count splits = all_in splits h x l.in_shards k.2 in
            let unaborted : aborted_in_history h t ≡ false =
            false_from_ne_true (aborted_in_history h t) (λ e. both_ways _ (aborted_nowhere splits before h after choice x.0 t legal shard e) left) in
            seen_or_not t k.1 x k.2 k.3 unaborted settled (has_look t h) refl
        | inr acked ↦ acked
      ]

-- What a shard did is what its own entries tell.
use Rattle.std.proofs.Common.{◌≡◌, ⊎_elim, refl, sym, ap, subst, ◌∙◌, ℕ, true, false, cond, Bool, List, [], ◌∷◌, ◌++◌, map, ◌==◌, eq-eqb, eqb-true, append-nil, append_assoc, ◌||◌, ◌&&◌}
use Rattle.std.proofs.lemmas.Bool.{both_ways, or_cases, or_left, or_right, and_from}
use Rattle.std.proofs.lemmas.List.Folds.{list_any-append}
use Rattle.clv_base.specs.declared.names.TxId.{TxId}
use Rattle.clv_base.specs.declared.logs.LogRecord.{LogRecord}
use Rattle.clv_base.specs.declared.events.Event.{Event}
use Rattle.clv_base.specs.declared.events.Event.TheVariants.{Op as OpEvent}
use Rattle.clv_base.specs.declared.events.Outcome.{Outcome}
use Rattle.clv_base.specs.declared.events.Outcome.TheVariants.{Answered}
use Rattle.clv_base.specs.declared.events.Entry.{Entry}
use Rattle.clv_base.specs.Orders.{tx_same, tx_in}
use Rattle.clv_base.specs.OneShard.{violated_here}
use Rattle.clv_base.specs.LogRules.{log_of}
use Rattle.clv_base.specs.State.{Shard}
use Rattle.clv_base.specs.Journals.{History, journal_of, start_of, after_entry, got_predecessors, predecessors_in}
use Rattle.clv_base.specs.History.{is_acknowledgement, acknowledged_in, state_before}
use Rattle.clv_base.proofs.SameNames.{tx_flip}
use Rattle.shard_laws.specs.OneShard.{Deeds, no_deeds, deeds_of, has_met, new_met}
use Rattle.history_cases.proofs.Merging.{Placed}
use Rattle.history_laws.specs.Telling.{told_in, told_by}
use Rattle.history_laws.proofs.Entries.WhatEntriesAdd.{deeds_next, told_next}
use Rattle.fate_laws.specs.Leading.{deeds_with, deeds_after, own_deeds, deeds_before}
use Rattle.fate_laws.specs.FallTelling.{own_entries, DeedsAreTold}
use Rattle.fate_laws.proofs.History.DeedsOfOneEntry.{deeds_own, deeds_other}
use Rattle.fate_laws.proofs.Waits.WaitsGoDown.{in_union}

-- what the front tells the shard did
pub record Tells (before after : List (List LogRecord)) (n : ℕ) (t : TxId) (pre : History) : Type 0 where
  pub done : told_in t (own_entries n pre) ≡ map told_by (deeds_of t (deeds_before before pre after n).done)
  pub told : tx_in t (deeds_before before pre after n).told ≡ acknowledged_in (own_entries n pre) t

own_push : (n : ℕ) (pre : History) (y : Placed) → own_entries n (pre ++ y ∷ []) ≡ own_entries n pre ++ cond (y.0 == n) (y ∷ []) []
own_push n [] y = refl
own_push n (x ∷ xs) y = at (x.0 == n) (own_push n xs y)
  where
    at : (b : Bool) → own_entries n (xs ++ y ∷ []) ≡ own_entries n xs ++ cond (y.0 == n) (y ∷ []) []
        → cond b (x ∷ own_entries n (xs ++ y ∷ [])) (own_entries n (xs ++ y ∷ [])) ≡ cond b (x ∷ own_entries n xs) (own_entries n xs) ++ cond (y.0 == n) (y ∷ []) []
    at true e = ap (λ l. x ∷ l) e
    at false e = e

module _ (before after : List (List LogRecord)) (n : ℕ) (t : TxId) where
  pushed : (pre : History) (x : Entry) → own_entries n (pre ++ (n, x) ∷ []) ≡ own_entries n pre ++ (n, x) ∷ []
  pushed pre x = own_push n pre (n, x) ∙ ap (λ b. own_entries n pre ++ cond b ((n, x) ∷ []) []) (eq-eqb n n refl)

  own_tells : (pre : History) (x : Entry) → Tells before after n t pre → Tells before after n t (pre ++ (n, x) ∷ [])
  own_tells pre x k =
      let s = state_before before pre after n in
      let d = own_deeds before pre after n in
      let e = deeds_own before after n x pre in
      let o = own_entries n pre in
      record {
        done = ap (told_in t) (pushed pre x) ∙ deeds_next n o x s d.done t k.done ∙ ap (λ z. map told_by (deeds_of t z.done)) (sym e);
        told = ap (λ z. tx_in t z.told) e ∙ told_next o x d.told t k.told
            ∙ list_any-append (λ z. is_acknowledgement t (z.1).event (z.1).outcome) o ((0, x) ∷ []) ∙ sym (list_any-append (λ z. is_acknowledgement t (z.1).event (z.1).outcome) o ((n, x) ∷ [])) ∙ ap (λ l. acknowledged_in l t) (sym (pushed pre x));
      }

  other_tells : (pre : History) (y : Placed) → (y.0 == n) ≡ false → Tells before after n t pre → Tells before after n t (pre ++ y ∷ [])
  other_tells pre y b k =
      let e : own_deeds before (pre ++ y ∷ []) after n ≡ own_deeds before pre after n = deeds_other before after n y pre b in
      let o : own_entries n (pre ++ y ∷ []) ≡ own_entries n pre = own_push n pre y ∙ ap (λ c. own_entries n pre ++ cond c (y ∷ []) []) b ∙ append-nil (own_entries n pre) in
      record {
        done = ap (told_in t) o ∙ k.done ∙ ap (λ z. map told_by (deeds_of t z.done)) (sym e);
        told = ap (λ z. tx_in t z.told) e ∙ k.told ∙ ap (λ l. acknowledged_in l t) (sym o);
      }

  next_tells : (pre : History) (y : Placed) → Tells before after n t pre → Tells before after n t (pre ++ y ∷ [])
  next_tells pre y k = at (y.0 == n) refl
    where
      at : (b : Bool) → (y.0 == n) ≡ b → Tells before after n t (pre ++ y ∷ [])
      at true b = let z = eqb-true y.0 n b in subst (λ m. Tells before after n t (pre ++ (m, y.1) ∷ [])) (sym z) (own_tells pre y.1 k)
      at false b = other_tells pre y b k

  all_tell : (pre rest : History) → Tells before after n t pre → Tells before after n t (pre ++ rest)
  all_tell pre [] k = subst (Tells before after n t) (sym (append-nil pre)) k
  all_tell pre (y ∷ ys) k = subst (Tells before after n t) (append_assoc pre (y ∷ []) ys) (all_tell (pre ++ y ∷ []) ys (next_tells pre y k))

-- ---- whose writes were violated

met_here : (tx p : TxId) (ps : List TxId) (t : TxId) → tx_same t tx ≡ true → tx_in p ps ≡ true → has_met (map (λ q. (tx, q)) ps) t p ≡ true
met_here tx p [] t s e = absurd (both_ways false refl e)
met_here tx p (q ∷ qs) t s e =
    ⊎_elim (λ a. or_left (tx_same t tx && tx_same p q) _ (and_from (tx_same t tx) (tx_same p q) s (tx_flip q p a))) (λ a. or_right (tx_same t tx && tx_same p q) _ (met_here tx p qs t s a))
    (or_cases (tx_same q p) (tx_in p qs) e)

got_met : (s : Shard) (t p : TxId) (e : Event) (o : Outcome) → tx_in p (got_predecessors s t e o) ≡ true → has_met (new_met s e o) t p ≡ true
got_met s t p (OpEvent tx birth nth seen op) (Answered a n) e = at (tx_same t tx) refl e
  where
    at : (b : Bool) → tx_same t tx ≡ b → tx_in p (cond b (violated_here s.local tx op) []) ≡ true → has_met (map (λ q. (tx, q)) (violated_here s.local tx op)) t p ≡ true
    at true f g = met_here tx p (violated_here s.local tx op) t f g
    at false f g = absurd (both_ways false refl g)
got_met s t p (OpEvent tx birth nth seen op) _ e = absurd (both_ways false refl e)
got_met s t p _ o e = absurd (both_ways false refl e)

two_mets : (xs ys : List (TxId × TxId)) (t p : TxId) → (has_met xs t p || has_met ys t p) ≡ true → has_met (xs ++ ys) t p ≡ true
two_mets xs ys t p e = list_any-append (λ q. tx_same t q.0 && tx_same p q.1) xs ys ∙ e

met_stays : (log : List LogRecord) (d : Deeds) (s : Shard) (es : List Entry) (t p : TxId) → has_met d.met t p ≡ true → has_met (deeds_after log d s es).met t p ≡ true
met_stays log d s [] t p e = e
met_stays log d s (x ∷ xs) t p e =
    met_stays log (deeds_with d s (after_entry log s x) x) (after_entry log s x) xs t p
    (two_mets (new_met s x.event x.outcome) d.met t p (or_right (has_met (new_met s x.event x.outcome) t p) (has_met d.met t p) e))

met_in : (log : List LogRecord) (d : Deeds) (s : Shard) (es : List Entry) (t p : TxId) → tx_in p (predecessors_in log s t es) ≡ true → has_met (deeds_after log d s es).met t p ≡ true
met_in log d s [] t p e = absurd (both_ways false refl e)
met_in log d s (x ∷ xs) t p e =
    ⊎_elim
    (λ a. met_stays log (deeds_with d s (after_entry log s x) x) (after_entry log s x) xs t p
    (two_mets (new_met s x.event x.outcome) d.met t p (or_left (has_met (new_met s x.event x.outcome) t p) (has_met d.met t p) (got_met s t p x.event x.outcome a))))
    (λ a. met_in log (deeds_with d s (after_entry log s x) x) (after_entry log s x) xs t p a)
    (in_union p (got_predecessors s t x.event x.outcome) (predecessors_in log (after_entry log s x) t xs) e)

pub deeds_are_told : DeedsAreTold
deeds_are_told before so_far after n t =
    let k = all_tell before after n t [] so_far (record { done = refl; told = refl }) in
    (sym k.done, k.told, (λ p e. met_in (log_of after n) no_deeds (start_of before n) (journal_of n so_far) t p e))

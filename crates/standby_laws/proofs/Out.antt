-- The place of the first COMMIT of one that doesn't pass.
use Rattle.std.proofs.Common.{◌≡◌, ⊎_elim, ℕ, suc, ◌≤◌, arith, Bool, true, false, cond, not, ◌&&◌, List, [], ◌∷◌, ◌++◌, append_assoc, length, refl, sym, ap, subst, ◌∙◌}
use Rattle.std.specs.Prelude.{take}
use Rattle.std.proofs.lemmas.Bool.{both_ways, and_parts, and_from, or_cases, or_left, or_right, not-false}
use Rattle.std.proofs.lemmas.List.{length-append}
use Rattle.clv_base.specs.declared.names.TxId.{TxId}
use Rattle.clv_base.specs.declared.logs.LogRecord.{LogRecord}
use Rattle.clv_base.specs.declared.logs.LogRecord.TheVariants.{Update, Clr, Prepare, Commit, Abort, End, Restart, Add, Unadd, Forgotten, Check}
use Rattle.clv_base.specs.Orders.{tx_same, tx_in}
use Rattle.clv_base.specs.Logs.{is_commit_of, committed_in}
use Rattle.clv_base.proofs.SameNames.{tx_true, tx_self}
use Rattle.law_base.proofs.Bools.{same_truth}
use Rattle.law_base.proofs.Commits.{committed_append}
use Rattle.shard_laws.proofs.Cuts.WhatCutsHold.{cut_keeps}
use Rattle.standby_base.specs.Standby.{commits_before}
use Rattle.standby_laws.proofs.Fronts.{take_less}
use Rattle.standby_laws.proofs.Before.{FirstCommit, first_commit, take_first}

abbrev pub is_out : (TxId → Bool) → LogRecord → Bool
is_out keep (Commit tx parts) = not (keep tx)
is_out keep _ = false

abbrev pub first_out : (TxId → Bool) → List LogRecord → ℕ
first_out keep [] = 0
first_out keep (r ∷ rs) = cond (is_out keep r) 0 (suc (first_out keep rs))

module _ (keep : TxId → Bool) where
  pub out_within : (log : List LogRecord) → first_out keep log ≤ length log
  out_within [] = omega arith
  out_within (r ∷ rs) = at (is_out keep r) (out_within rs)
    where
      at : (b : Bool) → first_out keep rs ≤ length rs → cond b 0 (suc (first_out keep rs)) ≤ suc (length rs)
      at true l = omega arith
      at false l = omega (arith, l)

  one_kept : (r : LogRecord) (t : TxId) → is_out keep r ≡ false → is_commit_of t r ≡ true → keep t ≡ true
  one_kept (Commit tx parts) t o c = subst (λ u. keep u ≡ true) (sym (tx_true t tx c)) (not-false (keep tx) o)
  one_kept (Update tx a b d) t o c = absurd (both_ways false refl c)
  one_kept (Clr tx a b d) t o c = absurd (both_ways false refl c)
  one_kept (Prepare tx a b) t o c = absurd (both_ways false refl c)
  one_kept (Abort tx) t o c = absurd (both_ways false refl c)
  one_kept (End tx) t o c = absurd (both_ways false refl c)
  one_kept (Restart run epoch) t o c = absurd (both_ways false refl c)
  one_kept (Add tx a by) t o c = absurd (both_ways false refl c)
  one_kept (Unadd tx a b by) t o c = absurd (both_ways false refl c)
  one_kept Forgotten t o c = absurd (both_ways false refl c)
  one_kept (Check run epoch upto base) t o c = absurd (both_ways false refl c)

  -- whoever is committed before it passes
  pub out_kept : (log : List LogRecord) (t : TxId) → committed_in (take (first_out keep log) log) t ≡ true → keep t ≡ true
  out_kept [] t c = absurd (both_ways false refl c)
  out_kept (r ∷ rs) t c = at (is_out keep r) refl c (out_kept rs t)
    where
      at : (b : Bool) → is_out keep r ≡ b → committed_in (take (cond b 0 (suc (first_out keep rs))) (r ∷ rs)) t ≡ true → (committed_in (take (first_out keep rs) rs) t ≡ true → keep t ≡ true) → keep t ≡ true
      at true e c k = absurd (both_ways false refl c)
      at false e c k = ⊎_elim (λ a. one_kept r t e a) k (or_cases (is_commit_of t r) (committed_in (take (first_out keep rs) rs) t) c)

  none_out : (r : LogRecord) → ((t : TxId) → is_commit_of t r ≡ true → keep t ≡ true) → is_out keep r ≡ false
  none_out (Commit tx parts) k = ap not (k tx (tx_self tx))
  none_out (Update tx a b d) k = refl
  none_out (Clr tx a b d) k = refl
  none_out (Prepare tx a b) k = refl
  none_out (Abort tx) k = refl
  none_out (End tx) k = refl
  none_out (Restart run epoch) k = refl
  none_out (Add tx a by) k = refl
  none_out (Unadd tx a b by) k = refl
  none_out Forgotten k = refl
  none_out (Check run epoch upto base) k = refl

  -- it stands behind a first piece of which all pass
  pub out_behind : (xs ys : List LogRecord) → ((t : TxId) → committed_in xs t ≡ true → keep t ≡ true) → length xs ≤ first_out keep (xs ++ ys)
  out_behind [] ys k = omega arith
  out_behind (x ∷ xs) ys k =
      let l = out_behind xs ys (λ t c. k t (or_right (is_commit_of t x) (committed_in xs t) c)) in
      subst (λ b. suc (length xs) ≤ cond b 0 (suc (first_out keep (xs ++ ys)))) (sym (none_out x (λ t c. k t (or_left (is_commit_of t x) (committed_in xs t) c)))) (omega (arith, l))

  -- where who passes has those that pass alone before it, up to there are just those that pass
  pub out_splits : (log : List LogRecord) → ((t p : TxId) → keep t ≡ true → committed_in log t ≡ true → tx_in p (commits_before t log) ≡ true → keep p ≡ true) → (t : TxId)
      → committed_in (take (first_out keep log) log) t ≡ (keep t && committed_in log t)
  out_splits log k t =
      same_truth (committed_in (take (first_out keep log) log) t) (keep t && committed_in log t)
      (λ c. and_from (keep t) (committed_in log t) (out_kept log t c) (cut_keeps (first_out keep log) log t c))
      (λ c. let p = and_parts (keep t) (committed_in log t) c in inside p.0 p.1)
    where
      inside : keep t ≡ true → committed_in log t ≡ true → committed_in (take (first_out keep log) log) t ≡ true
      inside a c =
          let f = first_commit log t c in
          let piece = f.front ++ Commit t f.parts ∷ [] in
          let own : committed_in (f.front ++ Commit t f.parts ∷ []) t ≡ true = committed_append f.front (Commit t f.parts ∷ []) t ∙ or_right (committed_in f.front t) _ (or_left (tx_same t t) false (tx_self t)) in
          let whole : log ≡ (f.front ++ Commit t f.parts ∷ []) ++ f.rest = f.is ∙ sym (append_assoc f.front (Commit t f.parts ∷ []) f.rest) in
          let l : length (f.front ++ Commit t f.parts ∷ []) ≤ first_out keep log = subst (λ z. length (f.front ++ Commit t f.parts ∷ []) ≤ first_out keep z) (sym whole) (out_behind (f.front ++ Commit t f.parts ∷ []) f.rest (λ q b. passes q f b)) in
          let n = length-append f.front (Commit t f.parts ∷ []) in
          let e : take (suc (length f.front)) log ≡ f.front ++ Commit t f.parts ∷ [] = ap (take (suc (length f.front))) f.is ∙ take_first f.front (Commit t f.parts) f.rest in
          cut_keeps (suc (length f.front)) (take (first_out keep log) log) t (subst (λ z. committed_in z t ≡ true) (sym e ∙ take_less (suc (length f.front)) (first_out keep log) log (omega (arith, l, n))) own)
        where
          passes : (q : TxId) (f : FirstCommit log t) → committed_in (f.front ++ Commit t f.parts ∷ []) q ≡ true → keep q ≡ true
          passes q f b =
              ⊎_elim (λ d. k t q a c (f.listed q d)) (λ d. ⊎_elim (λ s. subst (λ u. keep u ≡ true) (sym (tx_true q t s)) a) (λ s. absurd (both_ways false refl s)) (or_cases (tx_same q t) false d))
              (or_cases (committed_in f.front q) (committed_in (Commit t f.parts ∷ []) q) (sym (committed_append f.front (Commit t f.parts ∷ []) q) ∙ b))

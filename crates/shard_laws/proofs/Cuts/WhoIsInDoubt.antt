-- Who is in doubt in a log that lists what its PREPAREs met, and what a cut of the log lists.
use Rattle.std.proofs.Common.{◌≡◌, ◌⊎◌, inl, inr, ⊎_elim, refl, sym, ap, subst, ◌∙◌, ℕ, ◌<◌, Bool, true, false, cond, not, ◌&&◌, ◌||◌, ◌==◌, List, [], ◌∷◌, ◌++◌, Option, Some, arith, append_assoc}
use Rattle.std.specs.Prelude.{take, drop}
use Rattle.std.specs.List.{list_all}
use Rattle.std.proofs.lemmas.Bool.{both_ways, and_parts, and_from, not-true}
use Rattle.std.proofs.lemmas.List.{take-append-drop}
use Rattle.clv_base.specs.declared.names.TxId.{TxId}
use Rattle.clv_base.specs.declared.logs.LogRecord.{LogRecord}
use Rattle.clv_base.specs.declared.logs.LogRecord.TheVariants.{Update, Clr, Prepare, Commit, Abort, End, Restart, Add, Unadd, Forgotten, Check}
use Rattle.clv_base.specs.Orders.{tx_same, tx_in, tx_insert}
use Rattle.clv_base.specs.Logs.{committed_in, aborted_in, prepared_in, prepare_of, place_from, is_commit_of, is_prepare_of, doubt_by, in_doubt_from, in_doubt, is_winner}
use Rattle.clv_base.specs.LogRules.{listed_in}
use Rattle.clv_base.proofs.SameNames.{or_left, or_right, tx_self, insert_keeps, in_insert}
use Rattle.law_base.proofs.Commits.{place_some, place_keeps, place_there}
use Rattle.protocol_laws.specs.Order.{Sealed}
use Rattle.shard_laws.proofs.Cuts.WhatCutsHold.{taken_there, taken_place}
use Rattle.law_base.proofs.Doubts.{stays_in}
use Rattle.law_base.proofs.Sets.{list_all_at}
use Rattle.shard_laws.proofs.Keeping.ChangesKeepPrepared.{IsListed, by_prepare, prepare_here, listed_keeps, prepared_append}

-- ---- in doubt

-- it is prepared, neither committed nor aborted, and each that its PREPARE lists is committed or of these
pub record Doubted (log : List LogRecord) (these : List TxId) (t : TxId) : Type 0 where
  pub prepared : prepared_in log t ≡ true
  pub open_ : committed_in log t ≡ false
  pub unaborted : aborted_in log t ≡ false
  pub listed : list_all (λ p. committed_in log p || tx_in p these) (listed_in log t) ≡ true

more_all : (f h : TxId → Bool) (xs : List TxId) → ((x : TxId) → f x ≡ true → h x ≡ true) → list_all f xs ≡ true → list_all h xs ≡ true
more_all f h [] k e = refl
more_all f h (x ∷ xs) k e = let p = and_parts (f x) (list_all f xs) e in and_from _ _ (k x p.0) (more_all f h xs k p.1)

or_more : (a b c : Bool) → (b ≡ true → c ≡ true) → (a || b) ≡ true → (a || c) ≡ true
or_more true b c k e = refl
or_more false b c k e = k e

Result : List LogRecord → ℕ → List LogRecord → List TxId → TxId → Type 0
Result log shard rs sf t = (tx_in t sf ≡ true) ⊎ Doubted log (in_doubt_from log shard rs sf) t

one_doubt : (log : List LogRecord) (shard : ℕ) (before rs : List LogRecord) (sf : List TxId) (t : TxId) (home : ℕ) (ps : List TxId) → before ++ Prepare t home ps ∷ rs ≡ log → prepared_in before t ≡ false → doubt_by log shard t home ps sf ≡ true
    → Doubted log (in_doubt_from log shard rs (tx_insert t sf)) t
one_doubt log shard before rs sf t home ps e first d =
    let p = and_parts (not (shard == home) && not (committed_in log t) && not (aborted_in log t)) (list_all (λ q. committed_in log q || tx_in q sf) ps) d in
    let q = and_parts (not (shard == home) && not (committed_in log t)) (not (aborted_in log t)) p.0 in
    let r = and_parts (not (shard == home)) (not (committed_in log t)) q.0 in
    record {
      prepared = subst (λ l. prepared_in l t ≡ true) e (prepared_append before (Prepare t home ps ∷ rs) t ∙ or_right (prepared_in before t) _ (or_left (tx_same t t) (prepared_in rs t) (tx_self t)));
      open_ = not-true _ r.1;
      unaborted = not-true _ q.1;
      listed = subst (λ l. list_all (λ z. committed_in log z || tx_in z (in_doubt_from log shard rs (tx_insert t sf))) l ≡ true) (sym (ap by_prepare (ap (λ l. prepare_of l t) (sym e) ∙ prepare_here before rs t home ps first)))
          (more_all (λ z. committed_in log z || tx_in z sf) (λ z. committed_in log z || tx_in z (in_doubt_from log shard rs (tx_insert t sf))) ps
          (λ z. or_more (committed_in log z) (tx_in z sf) (tx_in z (in_doubt_from log shard rs (tx_insert t sf))) (λ i. stays_in log shard rs (tx_insert t sf) z (insert_keeps t z sf i))) p.1);
    }

prepare_case : (log : List LogRecord) (shard : ℕ) (before rs : List LogRecord) (sf : List TxId) (t tx : TxId) (home : ℕ) (ps : List TxId) (b : Bool) → before ++ Prepare tx home ps ∷ rs ≡ log → prepared_in before tx ≡ false → doubt_by log shard tx home ps sf ≡ b
    → Result log shard rs (cond b (tx_insert tx sf) sf) t → (tx_in t sf ≡ true) ⊎ Doubted log (in_doubt_from log shard rs (cond b (tx_insert tx sf) sf)) t
unfolding Result
prepare_case log shard before rs sf t tx home ps b e first d (inr r) = inr r
prepare_case log shard before rs sf t tx home ps false e first d (inl i) = inl i
prepare_case log shard before rs sf t tx home ps true e first d (inl i) =
    ⊎_elim (λ same. inr (subst (Doubted log (in_doubt_from log shard rs (tx_insert tx sf))) (sym same) (one_doubt log shard before rs sf tx home ps e first d))) (λ j. inl j) (in_insert tx t sf i)

doubts_are : (log : List LogRecord) (shard : ℕ) (before rs : List LogRecord) (sf : List TxId) (t : TxId) → before ++ rs ≡ log → Sealed before rs → tx_in t (in_doubt_from log shard rs sf) ≡ true → Result log shard rs sf t
unfolding Result
doubts_are log shard before [] sf t e s i = inl i
doubts_are log shard before (Prepare tx home ps ∷ rs) sf t e s i =
    prepare_case log shard before rs sf t tx home ps (doubt_by log shard tx home ps sf) e s.0 refl
    (doubts_are log shard (before ++ Prepare tx home ps ∷ []) rs (cond (doubt_by log shard tx home ps sf) (tx_insert tx sf) sf) t (append_assoc before (Prepare tx home ps ∷ []) rs ∙ e) s.1 i)
doubts_are log shard before (Update tx k b a ∷ rs) sf t e s i = doubts_are log shard (before ++ Update tx k b a ∷ []) rs sf t (append_assoc before (Update tx k b a ∷ []) rs ∙ e) s.1 i
doubts_are log shard before (Clr tx u k a ∷ rs) sf t e s i = doubts_are log shard (before ++ Clr tx u k a ∷ []) rs sf t (append_assoc before (Clr tx u k a ∷ []) rs ∙ e) s.1 i
doubts_are log shard before (Commit tx ps ∷ rs) sf t e s i = doubts_are log shard (before ++ Commit tx ps ∷ []) rs sf t (append_assoc before (Commit tx ps ∷ []) rs ∙ e) s.1 i
doubts_are log shard before (Abort tx ∷ rs) sf t e s i = doubts_are log shard (before ++ Abort tx ∷ []) rs sf t (append_assoc before (Abort tx ∷ []) rs ∙ e) s.1 i
doubts_are log shard before (End tx ∷ rs) sf t e s i = doubts_are log shard (before ++ End tx ∷ []) rs sf t (append_assoc before (End tx ∷ []) rs ∙ e) s.1 i
doubts_are log shard before (Restart run epoch ∷ rs) sf t e s i = doubts_are log shard (before ++ Restart run epoch ∷ []) rs sf t (append_assoc before (Restart run epoch ∷ []) rs ∙ e) s.1 i
doubts_are log shard before (Add tx k by ∷ rs) sf t e s i = doubts_are log shard (before ++ Add tx k by ∷ []) rs sf t (append_assoc before (Add tx k by ∷ []) rs ∙ e) s.1 i
doubts_are log shard before (Unadd tx u k by ∷ rs) sf t e s i = doubts_are log shard (before ++ Unadd tx u k by ∷ []) rs sf t (append_assoc before (Unadd tx u k by ∷ []) rs ∙ e) s.1 i
doubts_are log shard before (Forgotten ∷ rs) sf t e s i = doubts_are log shard (before ++ Forgotten ∷ []) rs sf t (append_assoc before (Forgotten ∷ []) rs ∙ e) s.1 i
doubts_are log shard before (Check run' epoch' upto base ∷ rs) sf t e s i = doubts_are log shard (before ++ Check run' epoch' upto base ∷ []) rs sf t (append_assoc before (Check run' epoch' upto base ∷ []) rs ∙ e) s.1 i

pub doubted : (shard : ℕ) (log : List LogRecord) (t : TxId) → Sealed [] log → tx_in t (in_doubt shard log) ≡ true → Doubted log (in_doubt shard log) t
unfolding Result
doubted shard log t s i = ⊎_elim (λ j. absurd (both_ways false refl j)) (λ d. d) (doubts_are log shard [] log [] t refl s i)

-- ---- a cut

pub prepared_cut : (c : ℕ) (log : List LogRecord) (t : TxId) → prepared_in (take c log) t ≡ true → prepared_in log t ≡ true
prepared_cut c log t e = subst (λ l. prepared_in l t ≡ true) (take-append-drop c log) (prepared_append (take c log) (drop c log) t ∙ or_left _ _ e)

-- the place of a COMMIT and of a PREPARE in the cut are those in the log
abbrev place_in : (LogRecord → Bool) → List LogRecord → Option ℕ
place_in test log = place_from 0 test log

cut_place : (c : ℕ) (log : List LogRecord) (test : LogRecord → Bool) (n : ℕ) → place_in test log ≡ Some n → n < c → place_in test (take c log) ≡ Some n
cut_place c log test n e l =
    let k = place_some 0 test (take c log) (taken_there 0 c test log n e (omega (arith, l))) in
    let w : place_in test log ≡ Some k.0 = subst (λ z. place_in test z ≡ Some k.0) (take-append-drop c log) (place_keeps 0 test (take c log) (drop c log) k.0 k.1) in
    k.1 ∙ sym w ∙ e

pub listed_cut : (c : ℕ) (log : List LogRecord) (t p : TxId) → prepared_in (take c log) t ≡ true → IsListed log t p → IsListed (take c log) t p
listed_cut c log t p e (inl i) = inl (ap (tx_in p) (sym (subst (λ l. listed_in l t ≡ listed_in (take c log) t) (take-append-drop c log) (listed_keeps (take c log) (drop c log) t e))) ∙ i)
listed_cut c log t p e (inr (n, m, f, g, l)) =
    let k = taken_place 0 c (is_prepare_of t) log m e g in
    inr (n, m, cut_place c log (is_commit_of p) n f (omega (arith, k, l)), cut_place c log (is_prepare_of t) m g (omega (arith, k)), l)

-- whom a doubted one lists, or who was committed before it, is a winner
pub listed_wins : (shard : ℕ) (log : List LogRecord) (t p : TxId) → Doubted log (in_doubt shard log) t → IsListed log t p → is_winner shard log p ≡ true
listed_wins shard log t p d (inl i) = list_all_at (λ q. committed_in log q || tx_in q (in_doubt shard log)) p (listed_in log t) d.listed i
listed_wins shard log t p d (inr (n, m, f, g, l)) = or_left _ _ (place_there 0 (is_commit_of p) log n f)

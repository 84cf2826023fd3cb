-- The predecessors of a transaction are those of its pairs.
use Rattle.std.proofs.Common.{◌≡◌, ℕ, Bool, true, false, cond, List, [], ◌∷◌, map, length, Option, None, refl, sym, ap, ◌∙◌}
use Rattle.std.proofs.lemmas.Bool.{both_ways}
use Rattle.std.specs.List.{AllByRecursion}
use Rattle.std.specs.List.Sorted.{IsStrictlySortedBy}
use Rattle.std.specs.declared.cmp.Ordering.{Ordering}
use Rattle.std.specs.declared.cmp.Ordering.TheVariants.{Less, Equal, Greater}
use Rattle.std.specs.Ordering.{is_eq, ordering_then, match_ordering}
use Rattle.clv_base.specs.declared.names.TxId.{TxId}
use Rattle.clv_base.specs.Orders.{tx_cmp, tx_same, tx_insert, pair_cmp}
use Rattle.clv_base.specs.Facts.{predecessors_of, due_by}
use Rattle.clv_base.proofs.SameNames.{tx_true}
use Rattle.cascade_undo.proofs.Runs.{of_tx}
use Rattle.law_base.proofs.Sets.{AllAbove as Above}

insert_first : (x : TxId) (xs : List TxId) → Above x xs → tx_insert x xs ≡ x ∷ xs
insert_first x [] a = refl
insert_first x (y ∷ ys) a = ap (λ o. match_ordering o (x ∷ y ∷ ys) (y ∷ ys) (y ∷ tx_insert x ys)) a.0

second_above : (a b : Ordering) → ordering_then a b ≡ Less → is_eq a ≡ true → b ≡ Less
second_above Less b e t = absurd (both_ways false refl t)
second_above Equal b e t = e
second_above Greater b e t = absurd (both_ways false refl t)

seconds_above : (tx : TxId) (p : TxId × TxId) (ps : List (TxId × TxId)) → tx_same tx p.0 ≡ true → AllByRecursion (λ q. pair_cmp p q ≡ Less) ps → Above p.1 (map (λ q. q.1) (of_tx tx ps))
seconds_above tx p [] s a = tt
seconds_above tx p (q ∷ qs) s a = at (tx_same tx q.0) refl (seconds_above tx p qs s a.1)
  where
    at : (b : Bool) → tx_same tx q.0 ≡ b → Above p.1 (map (λ q. q.1) (of_tx tx qs)) → Above p.1 (map (λ q. q.1) (cond b (q ∷ of_tx tx qs) (of_tx tx qs)))
    at true w more = (second_above (tx_cmp p.0 q.0) (tx_cmp p.1 q.1) a.0 (ap (λ x. tx_same x q.0) (sym (tx_true tx p.0 s)) ∙ w), more)
    at false w more = more

pub predecessors_of-run : (tx : TxId) (ps : List (TxId × TxId)) → IsStrictlySortedBy pair_cmp ps → predecessors_of ps tx ≡ map (λ p. p.1) (of_tx tx ps)
unfolding IsStrictlySortedBy
predecessors_of-run tx [] s = refl
predecessors_of-run tx (p ∷ ps) s = at (tx_same tx p.0) refl (predecessors_of-run tx ps s.1)
  where
    at : (b : Bool) → tx_same tx p.0 ≡ b → predecessors_of ps tx ≡ map (λ p. p.1) (of_tx tx ps)
        → elim b [ true ↦ tx_insert p.1 (predecessors_of ps tx) | false ↦ predecessors_of ps tx ] ≡ map (λ p. p.1) (cond b (p ∷ of_tx tx ps) (of_tx tx ps))
    at true w more = ap (tx_insert p.1) more ∙ insert_first p.1 (map (λ q. q.1) (of_tx tx ps)) (seconds_above tx p ps w s.0)
    at false w more = more

pub due_with : (xs : List TxId) (n : Option ℕ) → length xs ≡ 0 → due_by xs n ≡ n
due_with [] n e = refl
due_with (x ∷ xs) n e = absurd cc

pub due_without : (xs : List TxId) (n : Option ℕ) → (length xs ≡ 0 → ⊥) → due_by xs n ≡ None
due_without [] n e = absurd (e refl)
due_without (x ∷ xs) n e = refl

-- How many of the transactions of two lists pass a test.
use Rattle.std.proofs.Common.{◌≡◌, ℕ, ◌+◌, Bool, true, false, cond, not, ◌&&◌, ◌||◌, List, [], ◌∷◌, length, refl, sym, ap, ◌∙◌, arith}
use Rattle.std.proofs.lemmas.Bool.{both_ways, false_from_ne_true}
use Rattle.std.specs.List.{filter}
use Rattle.std.specs.List.Sorted.{IsStrictlySortedBy}
use Rattle.std.specs.declared.cmp.Ordering.{Ordering}
use Rattle.std.specs.declared.cmp.Ordering.TheVariants.{Less, Equal, Greater}
use Rattle.std.specs.Ordering.{is_eq, match_ordering}
use Rattle.clv_base.specs.declared.names.TxId.{TxId}
use Rattle.clv_base.specs.Orders.{tx_cmp, tx_same, tx_in, tx_insert, tx_union}
use Rattle.clv_base.specs.Facts.{predecessors_of}
use Rattle.clv_base.proofs.SameNames.{or_left, or_right, tx_true, tx_eq}
use Rattle.cascade_undo.proofs.Laws.{tx_in-insert}
use Rattle.cascade_undo.proofs.Laws.{tx_total}
use Rattle.cascade_undo.proofs.Laws.{insert_key-rises, insert_there}
use Rattle.law_base.proofs.Names.{Rise as Rises, above_not_in}
use Rattle.law_base.proofs.Numbers.{one_if}
use Rattle.law_base.proofs.Bools.{or_regroup as or_assoc}

abbrev passing : (TxId → Bool) → List TxId → ℕ
passing q xs = length (filter q xs)

-- ---- one list

passing-first : (q : TxId → Bool) (x : TxId) (xs : List TxId) → passing q (x ∷ xs) ≡ one_if (q x) + passing q xs
passing-first q x xs = at (q x)
  where
    at : (b : Bool) → length (cond b (x ∷ filter q xs) (filter q xs)) ≡ one_if b + passing q xs
    at true = omega arith
    at false = omega arith

is_tied : (c : Ordering) → c ≡ Equal → is_eq c ≡ true
is_tied c e = ap is_eq e

-- one more at its place counts where it is new
passing-insert_new : (q : TxId → Bool) (t : TxId) (xs : List TxId) → tx_in t xs ≡ false → passing q (tx_insert t xs) ≡ one_if (q t) + passing q xs
passing-insert_new q t [] e = passing-first q t []
passing-insert_new q t (x ∷ xs) e = at (tx_cmp t x) refl (passing-insert_new q t xs (false_from_ne_true _ (λ m. both_ways _ e (or_right (tx_same x t) (tx_in t xs) m))))
  where
    at : (c : Ordering) → tx_cmp t x ≡ c → passing q (tx_insert t xs) ≡ one_if (q t) + passing q xs → passing q (match_ordering c (t ∷ x ∷ xs) (x ∷ xs) (x ∷ tx_insert t xs)) ≡ one_if (q t) + passing q (x ∷ xs)
    at Less i more = passing-first q t (x ∷ xs)
    at Equal i more = absurd (both_ways _ e (or_left (tx_same x t) (tx_in t xs) (tx_eq x t (sym (tx_true t x (is_tied _ i))))))
    at Greater i more = let a = passing-first q x (tx_insert t xs) in let b = passing-first q x xs in omega (arith, a, b, more)

passing-insert : (q : TxId → Bool) (t : TxId) (xs : List TxId) → Rises xs → passing q (tx_insert t xs) ≡ one_if (q t && not (tx_in t xs)) + passing q xs
passing-insert q t xs s = at (tx_in t xs) refl
  where
    and_none : (b : Bool) → (b && false) ≡ false
    and_none true = refl
    and_none false = refl

    and_all : (b : Bool) → (b && true) ≡ b
    and_all true = refl
    and_all false = refl

    at : (b : Bool) → tx_in t xs ≡ b → passing q (tx_insert t xs) ≡ one_if (q t && not b) + passing q xs
    at true e = let h : passing q (tx_insert t xs) ≡ passing q xs = ap (passing q) (insert_there tx_total t xs s e) in let n : one_if (q t && false) ≡ 0 = ap one_if (and_none (q t)) in omega (arith, h, n)
    at false e = passing-insert_new q t xs e ∙ ap (λ b. one_if b + passing q xs) (sym (and_all (q t)))

-- ---- two lists

pub union_rises : (xs ys : List TxId) → Rises ys → Rises (tx_union xs ys)
union_rises [] ys s = s
union_rises (x ∷ xs) ys s = insert_key-rises tx_total x (tx_union xs ys) (union_rises xs ys s)

pub in_union : (t : TxId) (xs ys : List TxId) → tx_in t (tx_union xs ys) ≡ (tx_in t xs || tx_in t ys)
in_union t [] ys = refl
in_union t (x ∷ xs) ys = tx_in-insert x t (tx_union xs ys) ∙ ap (λ b. tx_same x t || b) (in_union t xs ys) ∙ or_assoc (tx_same x t) (tx_in t xs) (tx_in t ys)

-- those of the second list, and those of the first that are new
pub passing-union : (q : TxId → Bool) (xs ys : List TxId) → Rises xs → Rises ys → passing q (tx_union xs ys) ≡ passing q ys + passing (λ x. q x && not (tx_in x ys)) xs
unfolding IsStrictlySortedBy
passing-union q [] ys s r = omega arith
passing-union q (x ∷ xs) ys s r =
    let new : tx_in x (tx_union xs ys) ≡ tx_in x ys = in_union x xs ys ∙ ap (λ b. b || tx_in x ys) (above_not_in x xs s.0) in
    let more = passing-union q xs ys s.1 r in
    let first = passing-insert q x (tx_union xs ys) (union_rises xs ys r) ∙ ap (λ b. one_if (q x && not b) + passing q (tx_union xs ys)) new in
    let head = passing-first (λ x. q x && not (tx_in x ys)) x xs in
    omega (arith, more, first, head)

none_rises : Rises []
unfolding IsStrictlySortedBy
none_rises = tt

-- the predecessors rise
pub predecessors_rise : (pairs : List (TxId × TxId)) (tx : TxId) → Rises (predecessors_of pairs tx)
predecessors_rise [] tx = none_rises
predecessors_rise (p ∷ ps) tx = at (tx_same tx p.0) (predecessors_rise ps tx)
  where
    at : (b : Bool) → Rises (predecessors_of ps tx) → Rises (elim b [ true ↦ tx_insert p.1 (predecessors_of ps tx) | false ↦ predecessors_of ps tx ])
    at true s = insert_key-rises tx_total p.1 (predecessors_of ps tx) s
    at false s = s

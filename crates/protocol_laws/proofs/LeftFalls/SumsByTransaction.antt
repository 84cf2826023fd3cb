-- Sums over the rows of a rising table, by one transaction that differs and by names that have all rows that count.
use Rattle.std.proofs.Common.{◌≡◌, refl, sym, ap, subst, ◌∙◌, ℕ, zero, suc, ◌+◌, ◌<◌, ◌≤◌, Bool, true, false, cond, ◌||◌, List, [], ◌∷◌, Option, Some, None, arith}
use Rattle.std.proofs.lemmas.Bool.{both_ways}
use Rattle.std.specs.List.Sorted.{IsStrictlySortedBy}
use Rattle.std.specs.Map.{keys_of}
use Rattle.clv_base.specs.declared.names.TxId.{TxId}
use Rattle.clv_base.specs.Orders.{Table, tx_same, tx_in, tx_cmp, tx_get}
use Rattle.clv_base.proofs.SameNames.{tx_true, tx_self}
use Rattle.protocol_laws.specs.Left.{total_by}
use Rattle.law_base.proofs.Names.{not_above as above_none}

-- ---- rising tables

none_some : {X : Type 0} (o : Option X) (x : X) → o ≡ None → o ≡ Some x → ⊥
none_some None x e h = absurd cc
none_some (Some y) x e h = absurd cc

-- another transaction's row stands behind the first one
pub get_later : {X : Type 0} (t : TxId) (r : TxId × X) (rs : Table X) → tx_get r.0 rs ≡ None → (x : X) → tx_get t rs ≡ Some x → tx_get t (r ∷ rs) ≡ Some x
get_later t r rs none x e = at (tx_same t r.0) refl
  where
    at : (b : Bool) → tx_same t r.0 ≡ b → cond b (Some r.1) (tx_get t rs) ≡ Some x
    at true s = absurd (none_some (tx_get t rs) x (ap (λ u. tx_get u rs) (tx_true t r.0 s) ∙ none) e)
    at false s = e

pub get_first : {X : Type 0} (r : TxId × X) (rs : Table X) → tx_get r.0 (r ∷ rs) ≡ Some r.1
get_first r rs = ap (λ b. cond b (Some r.1) (tx_get r.0 rs)) (tx_self r.0)

-- ---- a test that differs at one transaction

pub other_total : {X : Type 0} (f : Bool → X → ℕ) (test now : TxId → Bool) (tx : TxId) (rs : Table X) → IsStrictlySortedBy tx_cmp (keys_of rs) → ((x : TxId) → tx_same x tx ≡ false → now x ≡ test x)
    → ((q : X) → tx_get tx rs ≡ Some q → f (now tx) q ≤ f (test tx) q) → total_by f now rs ≤ total_by f test rs
unfolding IsStrictlySortedBy
other_total f test now tx [] s same own = omega arith
other_total f test now tx (r ∷ rs) s same own =
    at (tx_same r.0 tx) refl (other_total f test now tx rs s.1 same (λ q e. own q (get_later tx r rs (above_none r.0 rs s.0) q e)))
  where
    at : (b : Bool) → tx_same r.0 tx ≡ b → total_by f now rs ≤ total_by f test rs → f (now r.0) r.1 + total_by f now rs ≤ f (test r.0) r.1 + total_by f test rs
    at true e more =
        let is = tx_true r.0 tx e in let first = subst (λ t. tx_get t (r ∷ rs) ≡ Some r.1) is (get_first r rs) in
        let one = subst (λ t. f (now t) r.1 ≤ f (test t) r.1) (sym is) (own r.1 first) in omega (arith, one, more)
    at false e more = let one = ap (λ b. f b r.1) (same r.0 e) in omega (arith, one, more)

-- ---- names that have all rows that count

abbrev pub row_sum : {X : Type 0} → (TxId → X → ℕ) → Table X → ℕ
row_sum g [] = 0
row_sum g (r ∷ rs) = g r.0 r.1 + row_sum g rs

abbrev pub at_name : {X : Type 0} → (TxId → X → ℕ) → TxId → Option X → ℕ
at_name g t None = 0
at_name g t (Some x) = g t x

abbrev pub name_sum : {X : Type 0} → (TxId → X → ℕ) → Table X → List TxId → ℕ
name_sum g rows [] = 0
name_sum g rows (t ∷ ts) = at_name g t (tx_get t rows) + name_sum g rows ts

module _ {X : Type 0} (g : TxId → X → ℕ) (r : TxId × X) (rs : Table X) (none : tx_get r.0 rs ≡ None) where
  one_more : (t : TxId) → at_name g t (tx_get t rs) ≤ at_name g t (tx_get t (r ∷ rs))
  one_more t = at (tx_same t r.0) refl
    where
      at : (b : Bool) → tx_same t r.0 ≡ b → at_name g t (tx_get t rs) ≤ at_name g t (cond b (Some r.1) (tx_get t rs))
      at true s = let zero_now = ap (at_name g t) (ap (λ u. tx_get u rs) (tx_true t r.0 s) ∙ none) in omega (arith, zero_now)
      at false s = omega arith

  more_names : (ts : List TxId) → name_sum g rs ts ≤ name_sum g (r ∷ rs) ts
  more_names [] = omega arith
  more_names (t ∷ ts) = let one = one_more t in let more = more_names ts in omega (arith, one, more)

  own_named : (ts : List TxId) → tx_in r.0 ts ≡ true → name_sum g rs ts + g r.0 r.1 ≤ name_sum g (r ∷ rs) ts
  own_named [] e = absurd (both_ways false refl e)
  own_named (t ∷ ts) e = at (tx_same t r.0) refl e (λ i. own_named ts i)
    where
      at : (b : Bool) → tx_same t r.0 ≡ b → (b || tx_in r.0 ts) ≡ true → (tx_in r.0 ts ≡ true → name_sum g rs ts + g r.0 r.1 ≤ name_sum g (r ∷ rs) ts) → name_sum g rs (t ∷ ts) + g r.0 r.1 ≤ name_sum g (r ∷ rs) (t ∷ ts)
      at true s i later =
          let is = tx_true t r.0 s in
          let was : at_name g t (tx_get t rs) ≡ 0 = ap (at_name g t) (ap (λ u. tx_get u rs) is ∙ none) in
          let now : at_name g t (tx_get t (r ∷ rs)) ≡ g r.0 r.1 = ap (λ u. at_name g u (tx_get u (r ∷ rs))) is ∙ ap (at_name g r.0) (get_first r rs) in
          let more = more_names ts in omega (arith, was, now, more)
      at false s i later = let one = one_more t in let more = later i in omega (arith, one, more)

pub named_total : {X : Type 0} (g : TxId → X → ℕ) (rows : Table X) (ts : List TxId) → IsStrictlySortedBy tx_cmp (keys_of rows) → ((t : TxId) (x : X) → tx_get t rows ≡ Some x → 0 < g t x → tx_in t ts ≡ true)
    → row_sum g rows ≤ name_sum g rows ts
unfolding IsStrictlySortedBy
named_total g [] ts s named = omega arith
named_total g (r ∷ rs) ts s named =
    let none = above_none r.0 rs s.0 in
    at (g r.0 r.1) refl (named_total g rs ts s.1 (λ t x e h. named t x (get_later t r rs none x e) h)) none
  where
    at : (n : ℕ) → g r.0 r.1 ≡ n → row_sum g rs ≤ name_sum g rs ts → tx_get r.0 rs ≡ None → g r.0 r.1 + row_sum g rs ≤ name_sum g (r ∷ rs) ts
    at zero e more none = let names = more_names g r rs none ts in omega (arith, e, more, names)
    at (suc n) e more none = let names = own_named g r rs none ts (named r.0 r.1 (get_first r rs) (omega (arith, e))) in omega (arith, more, names)

-- the same for a sum by a test
pub by_rows : {X : Type 0} (f : Bool → X → ℕ) (test : TxId → Bool) (rows : Table X) → total_by f test rows ≤ row_sum (λ t x. f (test t) x) rows
by_rows f test [] = omega arith
by_rows f test (r ∷ rs) = let more = by_rows f test rs in omega (arith, more)

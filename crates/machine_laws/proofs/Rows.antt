-- A test that all rows of a table pass: what is found there passes it, and rows put in or changed.
use Rattle.std.proofs.Common.{◌≡◌, refl, sym, ap, subst, Bool, true, false, cond, [], ◌∷◌, Some}
use Rattle.std.proofs.lemmas.Bool.{and_parts, and_from}
use Rattle.std.specs.List.{list_all}
use Rattle.std.specs.declared.cmp.Ordering.{Ordering}
use Rattle.std.specs.declared.cmp.Ordering.TheVariants.{Less, Equal, Greater}
use Rattle.std.specs.Ordering.{match_ordering, is_eq}
use Rattle.clv_base.specs.declared.names.TxId.{TxId}
use Rattle.clv_base.specs.Orders.{Table, tx_cmp, tx_same, tx_get, tx_put, tx_set}
use Rattle.clv_base.proofs.SameNames.{tx_true}

named_row : {X : Type 0} (test : TxId × X → Bool) (t u : TxId) (x : X) → tx_same t u ≡ true → test (t, x) ≡ true → test (u, x) ≡ true
named_row test t u x s h = subst (λ n. test (n, x) ≡ true) (tx_true t u s) h

pub get_passes : {X : Type 0} (test : TxId × X → Bool) (tx : TxId) (x : X) (rows : Table X) → list_all test rows ≡ true → tx_get tx rows ≡ Some x → test (tx, x) ≡ true
get_passes test tx x [] h e = absurd cc
get_passes test tx x (r ∷ rs) h e = at (tx_same tx r.0) refl e (get_passes test tx x rs)
  where
    two : (test r ≡ true) × (list_all test rs ≡ true)
    two = and_parts (test r) (list_all test rs) h

    at : (b : Bool) → tx_same tx r.0 ≡ b → cond b (Some r.1) (tx_get tx rs) ≡ Some x → (list_all test rs ≡ true → tx_get tx rs ≡ Some x → test (tx, x) ≡ true) → test (tx, x) ≡ true
    at true s e more = let v : r.1 ≡ x = cc in subst (λ y. test (tx, y) ≡ true) v (subst (λ n. test (n, r.1) ≡ true) (sym (tx_true tx r.0 s)) two.0)
    at false s e more = more two.1 e

pub put_passes : {X : Type 0} (test : TxId × X → Bool) (tx : TxId) (x : X) (rows : Table X) → test (tx, x) ≡ true → list_all test rows ≡ true → list_all test (tx_put tx x rows) ≡ true
put_passes test tx x [] p h = and_from _ _ p refl
put_passes test tx x (r ∷ rs) p h = at (tx_cmp tx r.0) refl (put_passes test tx x rs p (and_parts (test r) (list_all test rs) h).1)
  where
    two : (test r ≡ true) × (list_all test rs ≡ true)
    two = and_parts (test r) (list_all test rs) h

    at : (o : Ordering) → tx_cmp tx r.0 ≡ o → list_all test (tx_put tx x rs) ≡ true → list_all test (match_ordering o ((tx, x) ∷ r ∷ rs) ((r.0, x) ∷ rs) (r ∷ tx_put tx x rs)) ≡ true
    at Less e more = and_from _ _ p h
    at Equal e more = and_from _ _ (named_row test tx r.0 x (ap is_eq e) p) two.1
    at Greater e more = and_from _ _ two.0 more

pub set_passes : {X : Type 0} (test : TxId × X → Bool) (tx : TxId) (x : X) (rows : Table X) → test (tx, x) ≡ true → list_all test rows ≡ true → list_all test (tx_set tx x rows) ≡ true
set_passes test tx x [] p h = refl
set_passes test tx x (r ∷ rs) p h = at (tx_same tx r.0) refl (set_passes test tx x rs p (and_parts (test r) (list_all test rs) h).1)
  where
    two : (test r ≡ true) × (list_all test rs ≡ true)
    two = and_parts (test r) (list_all test rs) h

    at : (b : Bool) → tx_same tx r.0 ≡ b → list_all test (tx_set tx x rs) ≡ true → list_all test (cond b ((r.0, x) ∷ rs) (r ∷ tx_set tx x rs)) ≡ true
    at true s more = and_from _ _ (named_row test tx r.0 x s p) two.1
    at false s more = and_from _ _ two.0 more

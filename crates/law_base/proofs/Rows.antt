-- What holds of every row of a table, through what is put into it and changed in it.
use Rattle.std.proofs.Common.{◌≡◌, Bool, true, false, cond, [], ◌∷◌, Some, refl, sym, ap, subst}
use Rattle.std.specs.List.{AllByRecursion}
use Rattle.std.specs.declared.cmp.Ordering.{Ordering}
use Rattle.std.specs.declared.cmp.Ordering.TheVariants.{Less, Equal, Greater}
use Rattle.std.specs.Ordering.{match_ordering, is_eq}
use Rattle.clv_base.specs.declared.names.TxId.{TxId}
use Rattle.clv_base.specs.Orders.{Table, tx_cmp, tx_same, tx_get, tx_put, tx_set}
use Rattle.clv_base.proofs.SameNames.{tx_true}
use Rattle.law_base.proofs.Changed.{none_some, some_same}

get_case : {V : Type 0} (P : TxId × V → Type 0) (tx : TxId) (v : V) (r : TxId × V) (rs : Table V) (b : Bool) → tx_same tx r.0 ≡ b → P r → cond b (Some r.1) (tx_get tx rs) ≡ Some v → (tx_get tx rs ≡ Some v → P (tx, v))
    → P (tx, v)
get_case P tx v r rs true e p g k = subst (λ z. P (tx, z)) (some_same r.1 v g) (subst (λ z. P (z, r.1)) (sym (tx_true tx r.0 e)) p)
get_case P tx v r rs false e p g k = k g

pub rows_get : {V : Type 0} (P : TxId × V → Type 0) (tx : TxId) (v : V) (rs : Table V) → AllByRecursion P rs → tx_get tx rs ≡ Some v → P (tx, v)
rows_get P tx v [] a g = absurd (none_some v g)
rows_get P tx v (r ∷ rs) a g = get_case P tx v r rs (tx_same tx r.0) refl a.0 g (rows_get P tx v rs a.1)

pub rows_set : {V : Type 0} (P : TxId × V → Type 0) (tx : TxId) (v : V) (rs : Table V) → P (tx, v) → AllByRecursion P rs → AllByRecursion P (tx_set tx v rs)
rows_set P tx v [] p a = tt
rows_set P tx v (r ∷ rs) p a = at (tx_same tx r.0) refl (rows_set P tx v rs p a.1)
  where
    at : (b : Bool) → tx_same tx r.0 ≡ b → AllByRecursion P (tx_set tx v rs) → AllByRecursion P (cond b ((r.0, v) ∷ rs) (r ∷ tx_set tx v rs))
    at true e k = (subst (λ z. P (z, v)) (tx_true tx r.0 e) p, a.1)
    at false e k = (a.0, k)

put_case : {V : Type 0} (P : TxId × V → Type 0) (o : Ordering) (tx : TxId) (v : V) (r : TxId × V) (rs ts : Table V) → (o ≡ Equal → tx ≡ r.0) → P (tx, v) → P r → AllByRecursion P rs → AllByRecursion P ts
    → AllByRecursion P (match_ordering o ((tx, v) ∷ r ∷ rs) ((r.0, v) ∷ rs) (r ∷ ts))
put_case P Less tx v r rs ts e p q a b = (p, (q, a))
put_case P Equal tx v r rs ts e p q a b = (subst (λ z. P (z, v)) (e refl) p, a)
put_case P Greater tx v r rs ts e p q a b = (q, b)

pub rows_put : {V : Type 0} (P : TxId × V → Type 0) (tx : TxId) (v : V) (rs : Table V) → P (tx, v) → AllByRecursion P rs → AllByRecursion P (tx_put tx v rs)
rows_put P tx v [] p a = (p, tt)
rows_put P tx v (r ∷ rs) p a = put_case P (tx_cmp tx r.0) tx v r rs (tx_put tx v rs) (λ e. tx_true tx r.0 (ap is_eq e)) p a.0 a.1 (rows_put P tx v rs p a.1)

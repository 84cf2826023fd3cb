-- What each has, all have.
use Rattle.std.proofs.Common.{◌≡◌, true, List, [], ◌∷◌, Some, ◌⊎◌, Bool, cond, inl, sym, inr, ◌∙◌, false, refl}
use Rattle.std.specs.List.{AllByRecursion}
use Rattle.std.proofs.lemmas.Bool.{or_left, or_right}
use Rattle.clv_base.specs.declared.names.TxId.{TxId}
use Rattle.clv_base.specs.Orders.{tx_same, tx_in, Table, tx_get, tx_put}
use Rattle.clv_base.proofs.SameNames.{tx_self, tx_true}
use Rattle.law_base.proofs.Tables.{get_put}
use Rattle.law_base.proofs.Changed.{some_same}

pub all_in : (P : TxId → Type 0) (xs : List TxId) → ((t : TxId) → tx_in t xs ≡ true → P t) → AllByRecursion P xs
all_in P [] k = tt
all_in P (x ∷ xs) k = (k x (or_left (tx_same x x) (tx_in x xs) (tx_self x)), all_in P xs (λ t i. k t (or_right (tx_same x t) (tx_in t xs) i)))

-- a row of a table into which one was put
pub put_row : {V : Type 0} (t tx : TxId) (w v : V) (rs : Table V) → tx_get t (tx_put tx w rs) ≡ Some v → ((t ≡ tx) × (v ≡ w)) ⊎ (tx_get t rs ≡ Some v)
put_row t tx w v rs e = at (tx_same t tx) refl (sym (get_put tx t w rs) ∙ e)
  where
    at : (b : Bool) → tx_same t tx ≡ b → cond b (Some w) (tx_get t rs) ≡ Some v → ((t ≡ tx) × (v ≡ w)) ⊎ (tx_get t rs ≡ Some v)
    at true f g = inl (tx_true t tx f, sym (some_same w v g))
    at false f g = inr g

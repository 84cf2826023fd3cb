-- Tables in which one value is changed where it is.
use Rattle.std.proofs.Common.{◌≡◌, ◌⊎◌, inl, inr, Bool, true, false, cond, [], ◌∷◌, Option, Some, None, refl, sym, subst, ◌∙◌}
use Rattle.std.proofs.lemmas.Bool.{both_ways, cond-false}
pub use Rattle.std.proofs.lemmas.Option.{same_Some as some_same, none-some as none_some}
use Rattle.clv_base.specs.declared.names.TxId.{TxId}
use Rattle.clv_base.specs.Orders.{Table, tx_same, tx_get, tx_set}
use Rattle.clv_base.proofs.SameNames.{tx_true}

abbrev pub Set_or_old : {V : Type 0} → TxId → TxId → V → V → Option V → Type 0
Set_or_old t u w q old = ((u ≡ t) × (q ≡ w)) ⊎ ((u ≡ t → ⊥) × (old ≡ Some q))

set_here : {V : Type 0} (t u : TxId) (w q : V) (r : TxId × V) (rs : Table V) (b : Bool) → tx_same u r.0 ≡ b → tx_same t r.0 ≡ true → cond b (Some w) (tx_get u rs) ≡ Some q → Set_or_old t u w q (cond b (Some r.1) (tx_get u rs))
set_here t u w q r rs true e f h = inl (tx_true u r.0 e ∙ sym (tx_true t r.0 f), some_same q w (sym h))
set_here t u w q r rs false e f h = inr (λ s. both_ways _ e (subst (λ z. tx_same z r.0 ≡ true) (sym s) f), h)

set_later : {V : Type 0} (t u : TxId) (w q : V) (r : TxId × V) (rs : Table V) (b : Bool) → tx_same u r.0 ≡ b → tx_same t r.0 ≡ false → cond b (Some r.1) (tx_get u (tx_set t w rs)) ≡ Some q → (tx_get u (tx_set t w rs) ≡ Some q → Set_or_old t u w q (tx_get u rs)) → Set_or_old t u w q (cond b (Some r.1) (tx_get u rs))
set_later t u w q r rs true e f h ih = inr (λ s. both_ways _ f (subst (λ z. tx_same z r.0 ≡ true) s e), h)
set_later t u w q r rs false e f h ih = ih h

set_case : {V : Type 0} (t u : TxId) (w q : V) (r : TxId × V) (rs : Table V) (b : Bool) → tx_same t r.0 ≡ b → tx_get u (cond b ((r.0, w) ∷ rs) (r ∷ tx_set t w rs)) ≡ Some q → (tx_get u (tx_set t w rs) ≡ Some q → Set_or_old t u w q (tx_get u rs)) → Set_or_old t u w q (tx_get u (r ∷ rs))
set_case t u w q r rs true f h ih = set_here t u w q r rs (tx_same u r.0) refl f h
set_case t u w q r rs false f h ih = set_later t u w q r rs (tx_same u r.0) refl f h ih

pub get_set : {V : Type 0} (t u : TxId) (w q : V) (rs : Table V) → tx_get u (tx_set t w rs) ≡ Some q → Set_or_old t u w q (tx_get u rs)
get_set t u w q [] e = absurd (none_some q e)
get_set t u w q (r ∷ rs) e = set_case t u w q r rs (tx_same t r.0) refl e (get_set t u w q rs)

-- who is not there is not there after a change
none_here : {V : Type 0} (u : TxId) (r : TxId × V) (rs : Table V) (c : Bool) → tx_same u r.0 ≡ c → cond c (Some r.1) (tx_get u rs) ≡ None → (tx_same u r.0 ≡ false) × (tx_get u rs ≡ None)
none_here u r rs true f e = absurd (none_some r.1 (sym e))
none_here u r rs false f e = (f, e)

none_case : {V : Type 0} (t u : TxId) (w : V) (r : TxId × V) (rs : Table V) (b : Bool) → tx_get u (r ∷ rs) ≡ None → (tx_get u rs ≡ None → tx_get u (tx_set t w rs) ≡ None) → tx_get u (cond b ((r.0, w) ∷ rs) (r ∷ tx_set t w rs)) ≡ None
none_case t u w r rs true e ih = let n = none_here u r rs (tx_same u r.0) refl e in cond-false (tx_same u r.0) (Some w) (tx_get u rs) n.0 ∙ n.1
none_case t u w r rs false e ih = let n = none_here u r rs (tx_same u r.0) refl e in cond-false (tx_same u r.0) (Some r.1) (tx_get u (tx_set t w rs)) n.0 ∙ ih n.1

pub set_none : {V : Type 0} (t u : TxId) (w : V) (rs : Table V) → tx_get u rs ≡ None → tx_get u (tx_set t w rs) ≡ None
set_none t u w [] e = refl
set_none t u w (r ∷ rs) e = none_case t u w r rs (tx_same t r.0) e (set_none t u w rs)

-- Answers compared.
use Rattle.std.proofs.Common.{◌≡◌, ◌↔◌, ℕ, zero, suc, ◌+◌, ◌<◌, Bool, true, ◌&&◌, ◌==◌, List, [], ◌∷◌, ◌++◌, length, get_or, take, Option, Some, IsTrue, refl, sym, ap, ap₂, ◌∙◌, subst, arith}
use Rattle.std.proofs.lemmas.Bool.{and_parts, and_from, eqb-true, eq-eqb}
use Rattle.std.proofs.lemmas.List.{take_more}
use Rattle.std.proofs.lemmas.Option.{same_Some}
use Rattle.clv_base.specs.declared.values.Value.{Value as ValueType}
use Rattle.clv_base.specs.declared.ops.Answer.TheVariants.{Value, Pairs}
use Rattle.clv_base.specs.Values.{same_value, same_optional_value}
use Rattle.law_base.proofs.Options.{optional_value_true, optional_value_self}

pub value_true : (a b : ValueType) → same_value a b ≡ true → a ≡ b
value_true a b e = same_Some a b (optional_value_true (Some a) (Some b) e)

pub value_self : (a b : ValueType) → a ≡ b → same_value a b ≡ true
value_self a b e = subst (λ (x : ValueType). same_value a x ≡ true) e (optional_value_self (Some a))

pub pair_true : (p q : ℕ × ValueType) → (p.0 == q.0) && same_value p.1 q.1 ≡ true → p ≡ q
pair_true p q e =
    let parts = and_parts (p.0 == q.0) (same_value p.1 q.1) e in ap₂ (λ (k : ℕ) (v : ValueType). (k, v)) (eqb-true p.0 q.0 parts.0) (value_true p.1 q.1 parts.1)

pub pair_self : (p q : ℕ × ValueType) → p ≡ q → (p.0 == q.0) && same_value p.1 q.1 ≡ true
pair_self p q e =
    and_from (p.0 == q.0) (same_value p.1 q.1) (eq-eqb p.0 q.0 (ap (λ (x : ℕ × ValueType). x.0) e)) (value_self p.1 q.1 (ap (λ (x : ℕ × ValueType). x.1) e))

pub value_answer : (a b : Option ValueType) → IsTrue (same_optional_value a b) ↔ (Value a ≡ Value b)
value_answer a b = ((λ e. ap Value (optional_value_true a b e)), (λ e. let same : a ≡ b = cc in subst (λ (x : Option ValueType). same_optional_value a x ≡ true) same (optional_value_self a)))

pub pairs_answer : (a b : List (ℕ × ValueType)) (r : Bool) → IsTrue r ↔ (a ≡ b) → IsTrue r ↔ (Pairs a ≡ Pairs b)
pairs_answer a b r h = ((λ e. ap Pairs (h.0 e)), (λ e. let same : a ≡ b = cc in h.1 same))

-- fronts of two lists, one element more
pub fronts_more :
    {A : Type 0} (xs ys : List A) (i : ℕ) (x y : A) → i < length xs → i < length ys → x ≡ get_or xs i x → y ≡ get_or ys i y → take i xs ≡ take i ys → x ≡ y → take (i + 1) xs ≡ take (i + 1) ys
fronts_more xs ys i x y h k at there e same =
    take_more xs i x h ∙ ap₂ (λ l z. l ++ z ∷ []) e (sym at ∙ same ∙ there) ∙ sym (take_more ys i y k)

pub apart_at : {A : Type 0} (xs ys : List A) (i : ℕ) (x y : A) → x ≡ get_or xs i x → y ≡ get_or ys i y → i < length xs → (x ≡ y → ⊥) → xs ≡ ys → ⊥
apart_at xs ys i x y at there h never e = never (at ∙ ap (λ l. get_or l i x) e ∙ own ys i x y (subst (λ l. i < length l) e h) ∙ sym there)
  where
    own : {B : Type 0} (zs : List B) (n : ℕ) (a b : B) → n < length zs → get_or zs n a ≡ get_or zs n b
    own [] n a b l = absurd (omega arith)
    own (z ∷ zs) zero a b l = refl
    own (z ∷ zs) (suc n) a b l = own zs n a b (omega arith)

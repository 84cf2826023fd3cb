-- An Option that is none, and Options of numbers that are the same.
use Rattle.std.proofs.Common.{◌≡◌, refl, Bool, false, List, [], ◌∷◌, ◌==◌, Option, Some, None, is_none, true, ℕ, ap, eqb-true, eq-eqb, ◌∙◌, sym, Result, Ok, Err, ◌≤◌, arith, subst}
use Rattle.std.proofs.lemmas.Bool.{both_ways, and_parts, and_from, leb-true}
use Rattle.clv_base.specs.declared.values.Value.{Value as ValueType}
use Rattle.clv_base.specs.LogRules.{same_option}
use Rattle.std.specs.Prelude.{OnOk, is_some, ⊤, length, nat_le, nat_lt}
use Rattle.std.specs.List.{list_all}
use Rattle.clv_base.specs.declared.values.Value.TheVariants.{Num, Bytes}
use Rattle.clv_base.specs.Values.{fits_value, same_list, same_value, same_optional_value}
use Rattle.clv_base.specs.Logs.{optional_size}
use Rattle.clv_base.specs.declared.modes.Found.TheVariants.{Absent}
use Rattle.clv_base.specs.Needs.{found_by}

pub none_of : {X : Type 0} (o : Option X) → is_none o ≡ true → o ≡ None
none_of None e = refl
none_of (Some x) e = absurd (both_ways false refl e)

pub option_true : (a b : Option ℕ) → same_option a b ≡ true → a ≡ b
option_true None None e = refl
option_true (Some a) (Some b) e = ap Some (eqb-true a b e)
option_true None (Some b) e = absurd (both_ways false refl e)
option_true (Some a) None e = absurd (both_ways false refl e)

pub option_self : (a : Option ℕ) → same_option a a ≡ true
option_self None = refl
option_self (Some a) = eq-eqb a a refl

-- lists that are the same, element by element
pub list_true : {X : Type 0} (same : X → X → Bool) → ((x y : X) → same x y ≡ true → x ≡ y) → (xs ys : List X) → same_list same xs ys ≡ true → xs ≡ ys
list_true same h [] [] e = refl
list_true same h (x ∷ xs) (y ∷ ys) e =
    let p = and_parts (same x y) (same_list same xs ys) e in
    ap (λ z. z ∷ xs) (h x y p.0) ∙ ap (λ l. y ∷ l) (list_true same h xs ys p.1)
list_true same h [] (y ∷ ys) e = absurd (both_ways false refl e)
list_true same h (x ∷ xs) [] e = absurd (both_ways false refl e)

pub list_self : {X : Type 0} (same : X → X → Bool) → ((x : X) → same x x ≡ true) → (xs : List X) → same_list same xs xs ≡ true
list_self same h [] = refl
list_self same h (x ∷ xs) = and_from _ _ (h x) (list_self same h xs)

-- values that are the same, and such that may be none
pub value_true : (a b : ValueType) → same_value a b ≡ true → a ≡ b
value_true (Num a) (Num b) e = ap Num (eqb-true a b e)
value_true (Bytes a) (Bytes b) e = ap Bytes (list_true (◌==◌) eqb-true a b e)
value_true (Num a) (Bytes b) e = absurd (both_ways false refl e)
value_true (Bytes a) (Num b) e = absurd (both_ways false refl e)

pub value_self : (a : ValueType) → same_value a a ≡ true
value_self (Num a) = eq-eqb a a refl
value_self (Bytes a) = list_self (◌==◌) (λ x. eq-eqb x x refl) a

pub optional_value_true : (a b : Option ValueType) → same_optional_value a b ≡ true → a ≡ b
optional_value_true None None e = refl
optional_value_true (Some a) (Some b) e = ap Some (value_true a b e)
optional_value_true None (Some b) e = absurd (both_ways false refl e)
optional_value_true (Some a) None e = absurd (both_ways false refl e)

pub optional_value_self : (a : Option ValueType) → same_optional_value a a ≡ true
optional_value_self None = refl
optional_value_self (Some a) = value_self a

abbrev pub value_or : {A : Type 0} → A → Option A → A
value_or d None = d
value_or d (Some x) = x

pub some_once : {A : Type 0} (x y : A) (o : Option A) → o ≡ Some x → o ≡ Some y → x ≡ y
some_once {A} x y o a b = let k : ◌≡◌ {A = Option A} (Some x) (Some y) = sym a ∙ b in cc

pub some_inj : {A : Type 0} (x y : A) → Some x ≡ Some y → x ≡ y
some_inj x y h = cc

pub ok_inj : {A E : Type 0} (x y : A) → ◌≡◌ {A = Result A E} (Ok x) (Ok y) → x ≡ y
ok_inj x y h = cc

pub on_success : {A E : Type 0} (r : Result A E) (P Q : Type 0) → (P → Q) → OnOk r P → OnOk r Q
on_success (Ok a) P Q f p = f p
on_success (Err e) P Q f p = p

pub some_of : {A : Type 0} (o : Option A) → is_some o ≡ true → (x : A) × (o ≡ Some x)
some_of None h = absurd (both_ways false refl h)
some_of (Some x) h = (x, refl)

abbrev pub FitsOptional : Option ValueType → Type 0
FitsOptional None = ⊤
FitsOptional (Some v) = fits_value v ≡ true

pub option_small : (v : Option ValueType) → FitsOptional v → optional_size v ≤ 202
option_small None h = omega arith
option_small (Some (Num n)) h = omega arith
option_small (Some (Bytes b)) h = let few : length b ≤ 200 = leb-true (length b) 200 ((and_parts (nat_le (length b) 200) (list_all (λ x. nat_lt x 256) b) h).0) in omega (few, arith)

pub if_ok : {A E : Type 0} (P : A → Type 0) (r : Result A E) → Rattle.std.specs.Prelude.IfOk r P → (a : A) → r ≡ Ok a → P a
if_ok P (Ok b) h a is = subst P (let same : b ≡ a = cc in same) h
if_ok P (Err e) h a is = absurd cc

pub found_none : (held : Option ℕ) → is_some held ≡ false → held ≡ None
found_none None h = refl
found_none (Some w) h = absurd (both_ways true h refl)

pub absent_is : (o : Option (Option ValueType)) → found_by o ≡ Absent → o ≡ None
absent_is None e = refl
absent_is (Some None) e = absurd cc
absent_is (Some (Some v)) e = absurd cc

-- Tests: not, and, or; and orderings as tests.
use Rattle.std.proofs.Common.{◌≡◌, Bool, false, ◌||◌, refl, true, ◌&&◌, ap₂, sym, cond, T, subst}
use Rattle.std.proofs.lemmas.Bool.{both_ways, and_parts}
use Rattle.std.specs.Prelude.{not, IsTrue}
use Rattle.std.specs.declared.cmp.Ordering.TheVariants.{Less, Equal, Greater}
use Rattle.std.specs.Ordering.{is_eq, ordering_then, is_lt}
use Rattle.std.specs.declared.cmp.Ordering.{Ordering}

pub not_true : (b : Bool) → not b ≡ true → b ≡ false
not_true true h = absurd (both_ways false refl h)
not_true false h = refl

pub and_first : (a b : Bool) → (a && b) ≡ true → a ≡ true
and_first a b e = (and_parts a b e).0

pub and_true : (a b : Bool) → a ≡ true → b ≡ true → (a && b) ≡ true
and_true a b p q = ap₂ (λ x y. x && y) p q

pub or_regroup : (a b c : Bool) → (a || (b || c)) ≡ ((a || b) || c)
or_regroup true b c = refl
or_regroup false b c = refl

pub or_none : (b : Bool) → (b || false) ≡ b
or_none true = refl
or_none false = refl

pub and_second : (a b : Bool) → (a && b) ≡ true → b ≡ true
and_second a b e = (and_parts a b e).1

pub eq_by : (lt eq : Bool) → (lt ≡ true → eq ≡ false) → is_eq (cond lt Less (cond eq Equal Greater)) ≡ eq
eq_by true eq h = sym (h refl)
eq_by false true h = refl
eq_by false false h = refl

pub then_tied : (a b : Ordering) → is_eq (ordering_then a b) ≡ (is_eq a && is_eq b)
then_tied Less b = refl
then_tied Equal b = refl
then_tied Greater b = refl

pub less_is : (o : Ordering) → is_lt o ≡ true → o ≡ Less
less_is Less e = refl
less_is Equal e = absurd (both_ways false refl e)
less_is Greater e = absurd (both_ways false refl e)

pub or_yes : (a : Bool) → a || true ≡ true
or_yes true = refl
or_yes false = refl

pub or_assoc : (a b d : Bool) → (a || b) || d ≡ a || (b || d)
or_assoc true b d = refl
or_assoc false b d = refl

pub same_truth : (a b : Bool) → (a ≡ true → b ≡ true) → (b ≡ true → a ≡ true) → a ≡ b
same_truth true b f g = sym (f refl)
same_truth false true f g = g refl
same_truth false false f g = refl

pub by_bool : (P : Bool → Type 0) (b : Bool) → (b ≡ true → P true) → (b ≡ false → P false) → P b
by_bool P true t f = t refl
by_bool P false t f = f refl

pub was_true : (b : Bool) → not b ≡ false → b ≡ true
was_true true e = refl
was_true false e = absurd (both_ways false refl (sym e))

pub both_true : (a b : Bool) → IsTrue (a && b) → IsTrue a × IsTrue b
both_true true b is = (refl, is)
both_true false b is = absurd (let no : ◌≡◌ {A = Bool} false true = is in cc)

pub or_twice : (a c : Bool) → (a || c) ≡ (a || (a || c))
or_twice true c = refl
or_twice false c = refl

pub or_swap : (x y z : Bool) → (x || (y || z)) ≡ (y || (x || z))
or_swap true true z = refl
or_swap true false z = refl
or_swap false y z = refl

pub flip_and : (x y : Bool) → (x && y) ≡ (y && x)
flip_and true true = refl
flip_and true false = refl
flip_and false true = refl
flip_and false false = refl

pub none_or : (a b : Bool) → (a || b) ≡ false → (a ≡ false) × (b ≡ false)
none_or true b e = absurd (both_ways true e refl)
none_or false b e = (refl, e)

pub and_no : (a : Bool) → a && false ≡ false
and_no true = refl
and_no false = refl

pub or_false : (a : Bool) → a || false ≡ a
or_false true = refl
or_false false = refl

pub and_three : (a b c : Bool) → (a && b && c) ≡ true → (a ≡ true) × (b ≡ true) × (c ≡ true)
and_three a b c h = let two = and_parts (a && b) c h in let one = and_parts a b two.0 in (one.0, one.1, two.1)

pub t_true : (b : Bool) → b ≡ true → T b
t_true b e = subst T (sym e) tt

pub or_right_false : (a b : Bool) → b ≡ false → (a || b) ≡ a
or_right_false true b h = refl
or_right_false false b h = h

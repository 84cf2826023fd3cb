-- Sums modulo 2^64: the order of what is added doesn't matter, and what was added can be taken away.
use Rattle.std.proofs.Common.{◌≡◌, refl, sym, ap, ◌∙◌, ℕ, ◌+◌, ◌-◌, ◌*◌, ◌^◌, ◌/◌, ◌%◌, ◌<◌, Option, Some, None, arith}
use Rattle.std.proofs.Math.Nat.{mod-add-mod, mod-add-div', mod-lt, mod-eq_of_lt, div-eq_of_lt, add-mod_right, add-mul-mod_self_right, zero-mul, zero-add}
use Rattle.clv_base.specs.declared.values.Value.{Value}
use Rattle.clv_base.specs.declared.values.Value.TheVariants.{Num, Bytes}
use Rattle.clv_base.specs.Maps.{sum, plus, minus}

abbrev over : ℕ → ℕ → ℕ → ℕ
over m v n = v / m * m + (v + n) % m

abbrev whole : ℕ → ℕ → ℕ
whole m v = v / m * m

apart : (a b s t : ℕ) → t ≡ s → t + a ≡ b + s → a ≡ b
apart a b s t e f = omega (arith, e, f)

turned : (a b : ℕ) → a + b ≡ b + a
turned a b = omega arith

module _ (m : ℕ) (positive : 0 < m) where
  low : (v n : ℕ) → over m v n % m ≡ (v + n) % m
  low v n =
      ap (λ x. x % m) (turned (whole m v) ((v + n) % m))
      ∙ add-mul-mod_self_right ((v + n) % m) (v / m) m
      ∙ mod-eq_of_lt (mod-lt (v + n) positive)

  high : (v n : ℕ) → whole m (over m v n) ≡ whole m v
  high v n = apart (whole m (over m v n)) (whole m v) ((v + n) % m) (over m v n % m) (low v n) (mod-add-div' (over m v n) m)

  twice : (v n l : ℕ) → over m (over m v n) l ≡ whole m v + ((v + n) + l) % m
  twice v n l =
      ap (λ h. h + (over m v n + l) % m) (high v n)
      ∙ ap (λ r. whole m v + r) (sym (mod-add-mod (over m v n) m l) ∙ ap (λ r. (r + l) % m) (low v n) ∙ mod-add-mod (v + n) m l)

  pub turned_sums : (v n l : ℕ) → over m (over m v n) l ≡ over m (over m v l) n
  turned_sums v n l =
      let same : (v + n) + l ≡ (v + l) + n = omega arith in
      twice v n l ∙ ap (λ x. whole m v + x % m) same ∙ sym (twice v l n)

  rest : (v n : ℕ) → ((v + n) + (m - n % m)) % m ≡ v % m
  rest v n =
      let less : n % m < m = mod-lt n positive in
      let parts : n % m + whole m n ≡ n = mod-add-div' n m in
      let same : (v + n) + (m - n % m) ≡ (v + whole m n) + m = omega (arith, less, parts) in
      ap (λ x. x % m) same ∙ add-mod_right (v + whole m n) m ∙ add-mul-mod_self_right v (n / m) m

  pub back : (v n : ℕ) → over m (over m v n) (m - n % m) ≡ v
  back v n = twice v n (m - n % m) ∙ ap (λ r. whole m v + r) (rest v n) ∙ turned (whole m v) (v % m) ∙ mod-add-div' v m

  pub small : (v n : ℕ) → v < m → over m v n ≡ (v + n) % m
  small v n less = ap (λ q. q * m + (v + n) % m) (div-eq_of_lt less) ∙ ap (λ z. z + (v + n) % m) (zero-mul m) ∙ zero-add ((v + n) % m)

-- ---- values

is_positive : 0 < 2 ^ 64
is_positive = omega arith

pub plus_plus : (n l : ℕ) (o : Option Value) → plus n (plus l o) ≡ plus l (plus n o)
plus_plus n l None = refl
plus_plus n l (Some (Num v)) = ap (λ x. Some (Num x)) (turned_sums (2 ^ 64) is_positive v l n)
plus_plus n l (Some (Bytes b)) = refl

pub minus_plus : (n : ℕ) (o : Option Value) → minus n (plus n o) ≡ o
minus_plus n None = refl
minus_plus n (Some (Num v)) = ap (λ x. Some (Num x)) (back (2 ^ 64) is_positive v n)
minus_plus n (Some (Bytes b)) = refl

pub minus_over_plus : (n l : ℕ) (o : Option Value) → minus n (plus l o) ≡ plus l (minus n o)
minus_over_plus n l None = refl
minus_over_plus n l (Some (Num v)) = ap (λ x. Some (Num x)) (turned_sums (2 ^ 64) is_positive v l (2 ^ 64 - n % 2 ^ 64))
minus_over_plus n l (Some (Bytes b)) = refl

-- a number of 64 bits
pub small_sum : (v n : ℕ) → v < 2 ^ 64 → sum v n ≡ (v + n) % 2 ^ 64
small_sum v n less = small (2 ^ 64) is_positive v n less

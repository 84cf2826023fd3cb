-- Values: numbers, and texts of at most 200 bytes.
use Rattle.std.specs.Prelude.{◌^◌, Bool, true, false, ◌&&◌, ◌==◌, nat_lt, nat_le, List, [], ◌∷◌, length, Option, Some, None}
use Rattle.std.specs.List.{list_all}
pub use Rattle.clv_base.specs.declared.values.Value.{Value}
pub use Rattle.clv_base.specs.declared.values.Value.TheVariants.{Num, Bytes}

-- lists compared, element by element
abbrev pub same_list : {X : Type 0} → (X → X → Bool) → List X → List X → Bool
same_list same [] [] = true
same_list same (x ∷ xs) (y ∷ ys) = same x y && same_list same xs ys
same_list same [] (y ∷ ys) = false
same_list same (x ∷ xs) [] = false

-- values compared, and such that may be none
abbrev pub same_value : Value → Value → Bool
same_value (Num a) (Num b) = a == b
same_value (Bytes a) (Bytes b) = same_list (◌==◌) a b
same_value (Num a) (Bytes b) = false
same_value (Bytes a) (Num b) = false

abbrev pub same_optional_value : Option Value → Option Value → Bool
same_optional_value None None = true
same_optional_value (Some a) (Some b) = same_value a b
same_optional_value None (Some b) = false
same_optional_value (Some a) None = false

-- whether a value can be spelled: a number of 64 bits, or at most 200 bytes
abbrev pub fits_value : Value → Bool
fits_value (Num n) = nat_lt n (2 ^ 64)
fits_value (Bytes bytes) = nat_le (length bytes) 200 && list_all (λ b. nat_lt b 256) bytes

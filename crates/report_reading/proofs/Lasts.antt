-- The last of some.
use Rattle.std.proofs.Common.{◌≡◌, ℕ, suc, ◌-◌, List, [], ◌∷◌, length, get_or, refl, ap, ◌∙◌, arith}

-- the last of two and more is the last of those behind the first
pub last_of_rest : {A : Type 0} (x y : A) (zs : List A) (q : A) → q ≡ get_or (x ∷ y ∷ zs) (length (x ∷ y ∷ zs) - 1) q → q ≡ get_or (y ∷ zs) (length (y ∷ zs) - 1) q
last_of_rest x y zs q at =
    let size : length (x ∷ y ∷ zs) - 1 ≡ suc (length (y ∷ zs) - 1) = omega arith in
    at ∙ ap (λ (k : ℕ). get_or (x ∷ y ∷ zs) k q) size

pub none_of : {A : Type 0} (xs : List A) → length xs ≡ 0 → xs ≡ []
none_of [] e = refl
none_of (x ∷ xs) e = absurd (omega arith)

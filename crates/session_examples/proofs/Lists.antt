-- A list whose last one leaves and another one comes.
use Rattle.std.proofs.Common.{◌≡◌, ◌∙◌, sym, ap, subst, ℕ, zero, suc, ◌<◌, ◌≤◌, ◌-◌, List, [], ◌∷◌, ◌++◌, take, length, get_or, set, arith}

-- what is so of each at its place is so still, if it is of the new one
pub last_changed : {A : Type 0} (P : ℕ → A → Type 0) (xs : List A) (m : ℕ) (v : A) → suc m ≡ length xs → ((k : ℕ) (d : A) → k < length xs → P k (get_or xs k d)) → P m v
    → (k : ℕ) (d : A) → k < length (take m xs ++ v ∷ []) → P k (get_or (take m xs ++ v ∷ []) k d)
last_changed P [] m v many each new k d l = absurd (omega arith)
last_changed P (x ∷ xs) zero v many each new zero d l = new
last_changed P (x ∷ xs) zero v many each new (suc k) d l = absurd (omega arith)
last_changed P (x ∷ xs) (suc m) v many each new zero d l = each 0 d (omega arith)
last_changed P (x ∷ xs) (suc m) v many each new (suc k) d l = last_changed (λ j. P (suc j)) xs m v (omega arith) (λ j e i. each (suc j) e (omega arith)) new k d (omega arith)

pub length_changed : {A : Type 0} (xs : List A) (m : ℕ) (v : A) → suc m ≡ length xs → length (take m xs ++ v ∷ []) ≡ length xs
length_changed [] m v many = absurd (omega arith)
length_changed (x ∷ xs) zero v many = (omega arith)
length_changed (x ∷ xs) (suc m) v many = ap suc (length_changed xs m v (omega arith))

-- the last one of these leaves, and then one comes
pub each_back : {A : Type 0} (P : ℕ → A → Type 0) (xs ys zs : List A) (n : ℕ) (v : A) → n ≡ length xs → 1 ≤ n → ys ≡ take (n - 1) xs → zs ≡ ys ++ v ∷ [] → ((k : ℕ) (d : A) → k < length xs → P k (get_or xs k d)) → P (n - 1) v
    → (k : ℕ) (d : A) → k < length zs → P k (get_or zs k d)
each_back P xs ys zs n v many some left came each new =
    subst (λ l. (k : ℕ) (d : _) → k < length l → P k (get_or l k d)) (sym (came ∙ ap (λ l. l ++ v ∷ []) left)) (last_changed P xs (n - 1) v (omega arith) each new)

pub length_back : {A : Type 0} (xs ys zs : List A) (n : ℕ) (v : A) → n ≡ length xs → 1 ≤ n → ys ≡ take (n - 1) xs → zs ≡ ys ++ v ∷ [] → length zs ≡ n
length_back xs ys zs n v many some left came = ap length (came ∙ ap (λ l. l ++ v ∷ []) left) ∙ (length_changed xs (n - 1) v (omega arith) ∙ sym many)

pub second_back : {A : Type 0} (xs ys zs : List A) (n : ℕ) (v : A) → n ≡ 2 → ys ≡ take (n - 1) xs → zs ≡ ys ++ v ∷ [] → zs ≡ take 1 xs ++ v ∷ []
second_back xs ys zs n v two left came = came ∙ ap (λ l. l ++ v ∷ []) (left ∙ ap (λ m. take (m - 1) xs) two)

-- one is put in the place of another
pub each_at : {A : Type 0} (P : ℕ → A → Type 0) (xs : List A) (n : ℕ) (v : A) → ((k : ℕ) (d : A) → k < length xs → P k (get_or xs k d)) → P n v → (k : ℕ) (d : A) → k < length (set xs n v) → P k (get_or (set xs n v) k d)
each_at P [] n v each new k d l = each k d l
each_at P (x ∷ xs) zero v each new zero d l = new
each_at P (x ∷ xs) zero v each new (suc k) d l = each (suc k) d l
each_at P (x ∷ xs) (suc n) v each new zero d l = each 0 d (omega arith)
each_at P (x ∷ xs) (suc n) v each new (suc k) d l = each_at (λ j. P (suc j)) xs n v (λ j e i. each (suc j) e (omega arith)) new k d (omega arith)

-- Gates and logs that are taken one after another.
use Rattle.std.proofs.Common.{◌≡◌, ℕ, zero, suc, ◌+◌, ◌<◌, List, [], ◌∷◌, ◌++◌, map, length, get_or, Vec, Global, refl, sym, ◌∙◌, subst, arith}
use Rattle.std.proofs.lemmas.List.{get_or_append_left, get_or_at}
use mathlib.Core.Logic.{dite}
use native.Mathlib.Decide.{ℕ_discrete}
use Rattle.clv_base.specs.declared.logs.LogRecord.{LogRecord}
use Rattle.clv_base.specs.LogRules.{log_of}

pub log_at : (xs : List (Vec LogRecord Global)) (k : ℕ) (d : Vec LogRecord Global) → k < length xs → log_of (map (λ v. v.items) xs) k ≡ (get_or xs k d).items
log_at [] k d l = absurd (omega arith)
log_at (x ∷ xs) zero d l = refl
log_at (x ∷ xs) (suc k) d l = log_at xs k d (omega arith)

pub pushed_two : {X Y : Type 0} (P : ℕ → X → Y → Type 0) (xs : List X) (ys : List Y) (x : X) (y : Y) (k : ℕ) → length xs ≡ k → length ys ≡ k → ((n : ℕ) (d : X) (e : Y) → n < k → P n (get_or xs n d) (get_or ys n e)) → P k x y
    → (n : ℕ) (d : X) (e : Y) → n < k + 1 → P n (get_or (xs ++ x ∷ []) n d) (get_or (ys ++ y ∷ []) n e)
pushed_two {X} {Y} P xs ys x y k a b old new n d e l = dite (ℕ_discrete n k)
    (λ same. subst (λ (z : X). P n z (get_or (ys ++ y ∷ []) n e)) (sym (get_or_at xs x [] d n (a ∙ sym same)))
    (subst (λ (z : Y). P n x z) (sym (get_or_at ys y [] e n (b ∙ sym same))) (subst (λ (i : ℕ). P i x y) (sym same) new)))
    (λ other. (let low : n < k = omega arith in
    subst (λ (z : X). P n z (get_or (ys ++ y ∷ []) n e)) (sym (get_or_append_left xs (x ∷ []) d n (omega arith)))
    (subst (λ (z : Y). P n (get_or xs n d) z) (sym (get_or_append_left ys (y ∷ []) e n (omega arith))) (old n d e low))))

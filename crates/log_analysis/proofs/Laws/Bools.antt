-- Tests by cases.
use Rattle.std.proofs.Common.{◌≡◌, Bool, true, false, cond, not, ◌&&◌, ◌||◌, List, [], ◌∷◌, refl, ap, ◌∙◌}
use Rattle.std.specs.List.{list_all, filter}

pub and_first : (a b : Bool) → a && b ≡ true → a ≡ true
and_first true b e = refl
and_first false b e = absurd cc

pub and_second : (a b : Bool) → a && b ≡ true → b ≡ true
and_second true b e = e
and_second false b e = absurd cc

pub and_both : (a b : Bool) → a ≡ true → b ≡ true → a && b ≡ true
and_both true b e f = f
and_both false b e f = absurd cc

pub all_same : {X : Type 0} (f g : X → Bool) → ((x : X) → f x ≡ g x) → (xs : List X) → list_all f xs ≡ list_all g xs
all_same f g same [] = refl
all_same f g same (x ∷ xs) = ap (λ b. b && list_all f xs) (same x) ∙ ap (λ b. g x && b) (all_same f g same xs)

-- what follows from each
pub all_weaker : {X : Type 0} (f g : X → Bool) → ((x : X) → f x ≡ true → g x ≡ true) → (xs : List X) → list_all f xs ≡ true → list_all g xs ≡ true
all_weaker f g more [] all = refl
all_weaker f g more (x ∷ xs) all = and_both (g x) (list_all g xs) (more x (and_first (f x) (list_all f xs) all)) (all_weaker f g more xs (and_second (f x) (list_all f xs) all))

kept : {X : Type 0} (p : X → Bool) (t : Bool) (x : X) (xs : List X) → list_all p (cond t (x ∷ xs) xs) ≡ (not t || p x) && list_all p xs
kept p true x xs = refl
kept p false x xs = refl

-- what is kept of a list passes where each that is kept does
pub all_filter : {X : Type 0} (p test : X → Bool) (xs : List X) → list_all p (filter test xs) ≡ list_all (λ x. not (test x) || p x) xs
all_filter p test [] = refl
all_filter p test (x ∷ xs) = kept p (test x) x (filter test xs) ∙ ap (λ b. (not (test x) || p x) && b) (all_filter p test xs)

and_swap : (a b c d : Bool) → (a && b) && (c && d) ≡ (a && c) && (b && d)
and_swap true true c d = refl
and_swap true false true d = refl
and_swap true false false d = refl
and_swap false b c d = refl

pub all_both : {X : Type 0} (f g : X → Bool) (xs : List X) → list_all (λ x. f x && g x) xs ≡ list_all f xs && list_all g xs
all_both f g [] = refl
all_both f g (x ∷ xs) = ap (λ b. (f x && g x) && b) (all_both f g xs) ∙ and_swap (f x) (g x) (list_all f xs) (list_all g xs)

pub all_true : {X : Type 0} (f : X → Bool) → ((x : X) → f x ≡ true) → (xs : List X) → list_all f xs ≡ true
all_true f each [] = refl
all_true f each (x ∷ xs) = and_both (f x) (list_all f xs) (each x) (all_true f each xs)

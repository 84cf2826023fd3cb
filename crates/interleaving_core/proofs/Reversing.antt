-- Lists from their end on.
use Rattle.std.proofs.Common.{◌≡◌, refl, sym, ap, ◌∙◌, true, false, cond, ◌&&◌, ◌||◌, Bool, List, [], ◌∷◌, ◌++◌, reverse, append-nil}
use Rattle.std.specs.Prelude.{ℕ, not, nat_lt, Option, Some, None}
use Rattle.std.specs.List.{filter, list_any, list_all}
use Rattle.std.proofs.lemmas.List.{reverse-append}
use Rattle.std.proofs.lemmas.List.Elements.{filter-append}
use Rattle.clv_base.specs.Sessions.{is_back_whole}

module _ {A : Type 0} (p : A → Bool) where
  pub filter_reverse : (xs : List A) → filter p (reverse xs) ≡ reverse (filter p xs)
  filter_reverse [] = refl
  filter_reverse (x ∷ xs) = ap (filter p) (reverse-append (x ∷ []) xs) ∙ filter-append p (reverse xs) (x ∷ []) ∙ ap (λ l. l ++ filter p (x ∷ [])) (filter_reverse xs) ∙ at (p x)
    where
      at : (b : Bool) → reverse (filter p xs) ++ cond b (x ∷ []) [] ≡ reverse (cond b (x ∷ filter p xs) (filter p xs))
      at true = sym (reverse-append (x ∷ []) (filter p xs))
      at false = append-nil (reverse (filter p xs))

  any_last : (xs : List A) (x : A) → list_any p (xs ++ x ∷ []) ≡ (p x || list_any p xs)
  any_last [] x = refl
  any_last (y ∷ ys) x = ap (λ b. p y || b) (any_last ys x) ∙ swap (p y) (p x) (list_any p ys)
    where
      swap : (a b c : Bool) → (a || (b || c)) ≡ (b || (a || c))
      swap true true c = refl
      swap true false c = refl
      swap false true c = refl
      swap false false c = refl

  pub any_reverse : (xs : List A) → list_any p (reverse xs) ≡ list_any p xs
  any_reverse [] = refl
  any_reverse (x ∷ xs) = ap (list_any p) (reverse-append (x ∷ []) xs) ∙ any_last (reverse xs) x ∙ ap (λ b. p x || b) (any_reverse xs)

  all_last : (xs : List A) (x : A) → list_all p (xs ++ x ∷ []) ≡ (p x && list_all p xs)
  all_last [] x = refl
  all_last (y ∷ ys) x = ap (λ b. p y && b) (all_last ys x) ∙ swap (p y) (p x) (list_all p ys)
    where
      swap : (a b c : Bool) → (a && (b && c)) ≡ (b && (a && c))
      swap true true c = refl
      swap true false c = refl
      swap false true c = refl
      swap false false c = refl

  pub all_reverse : (xs : List A) → list_all p (reverse xs) ≡ list_all p xs
  all_reverse [] = refl
  all_reverse (x ∷ xs) = ap (list_all p) (reverse-append (x ∷ []) xs) ∙ all_last (reverse xs) x ∙ ap (λ b. p x && b) (all_reverse xs)

pub whole_reverse : (back : Option (ℕ × ℕ)) (ws : List (ℕ × ℕ)) → is_back_whole back (reverse ws) ≡ is_back_whole back ws
whole_reverse None ws = refl
whole_reverse (Some b) ws = ap not (any_reverse (λ w. nat_lt b.1 w.1) ws)

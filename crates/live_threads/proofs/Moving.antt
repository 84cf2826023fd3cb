-- Things that go from the end of one list into another, and come back.
use Rattle.std.proofs.Common.{◌≡◌, ◌⊎◌, inl, inr, refl, sym, ap, ◌∙◌, subst, ℕ, ◌<◌, ◌≤◌, Bool, true, List, [], ◌∷◌, ◌++◌, length, map, reverse, get_or, append_assoc, arith, length-append}
use Rattle.std.proofs.lemmas.List.{reverse-append, map-append, get_or_append_left, get_or_push}
use Rattle.std.proofs.lemmas.Bool.{cases_lt}

-- the last one of a list goes in front of those that went before it, as their list has it from its end on
pub moved : {S X : Type 0} (f : S → X) (front old : List X) (x : X) (all : List X) (seats : List S) (s : S) → all ++ reverse (map f seats) ≡ old → all ≡ front ++ x ∷ [] → f s ≡ x → front ++ reverse (map f (seats ++ s ∷ [])) ≡ old
moved f front old x all seats s is split same =
    let one : map f (seats ++ s ∷ []) ≡ map f seats ++ f s ∷ [] = map-append f seats (s ∷ []) in
    let back : reverse (map f seats ++ f s ∷ []) ≡ f s ∷ reverse (map f seats) = reverse-append (map f seats) (f s ∷ []) in
    ap (λ l. front ++ reverse l) one ∙ (ap (λ l. front ++ l) back ∙ (ap (λ y. front ++ (y ∷ reverse (map f seats))) same
    ∙ (sym (append_assoc front (x ∷ []) (reverse (map f seats))) ∙ (ap (λ l. l ++ reverse (map f seats)) (sym split) ∙ is))))

pub map_reverse : {S X : Type 0} (f : S → X) (xs : List S) → map f (reverse xs) ≡ reverse (map f xs)
map_reverse f [] = refl
map_reverse f (x ∷ xs) =
    ap (map f) (reverse-append (x ∷ []) xs) ∙ (map-append f (reverse xs) (x ∷ []) ∙ (ap (λ l. l ++ f x ∷ []) (map_reverse f xs) ∙ sym (reverse-append (f x ∷ []) (map f xs))))

-- what is left in the list, and the others, are all of it
pub rest_of_it : {S X : Type 0} (f : S → X) (front old : List X) (seats after : List S) → after ≡ reverse seats → front ++ reverse (map f seats) ≡ old → front ++ map f after ≡ old
rest_of_it f front old seats after back is = ap (λ l. front ++ map f l) back ∙ (ap (λ l. front ++ l) (map_reverse f seats) ∙ is)

pub all_of_it : {S X : Type 0} (f : S → X) (front old : List X) (seats after : List S) → front ≡ [] → after ≡ reverse seats → front ++ reverse (map f seats) ≡ old → map f after ≡ old
all_of_it f front old seats after none back is = sym (ap (λ l. l ++ map f after) none) ∙ rest_of_it f front old seats after back is

-- the only one that is left, in front of the others
pub own_first : {X : Type 0} (front left : List X) (x : X) (rest all : List X) → length front ≡ 1 → front ≡ left ++ x ∷ [] → front ++ rest ≡ all → (x ∷ rest ≡ all) × (left ≡ [])
own_first front [] x rest all one is whole = (sym (ap (λ l. l ++ rest) is) ∙ whole, refl)
own_first front (y ∷ left) x rest all one is whole = absurd (let long = length-append left (x ∷ []) in let same = ap length is in let no : ⊥ = omega arith in no)

pub none_at_all : {X : Type 0} (xs : List X) → length xs ≡ 0 → xs ≡ []
none_at_all [] h = refl
none_at_all (x ∷ xs) h = absurd (omega arith)

-- what holds of each so far, and of one more
pub told_too : {S : Type 0} (t : S → Bool) (xs : List S) (x : S) → ((k : ℕ) (d : S) → k < length xs → t (get_or xs k d) ≡ true) → t x ≡ true → (k : ℕ) (d : S) → k < length (xs ++ x ∷ []) → t (get_or (xs ++ x ∷ []) k d) ≡ true
told_too {S} t xs x each is k d low = at (cases_lt k (length xs))
  where
    at : (k < length xs) ⊎ (length xs ≤ k) → t (get_or (xs ++ x ∷ []) k d) ≡ true
    at (inl here) = ap t (get_or_append_left xs (x ∷ []) d k here) ∙ each k d here
    at (inr past) = ap t (get_or_push xs x d k (let long = length-append xs (x ∷ []) in omega arith)) ∙ is

-- of a list that is another one
pub told_all : {S : Type 0} (t : S → Bool) (xs ys : List S) → xs ≡ ys → ((k : ℕ) (d : S) → k < length xs → t (get_or xs k d) ≡ true) → (k : ℕ) (d : S) → k < length ys → t (get_or ys k d) ≡ true
told_all t xs ys same each = subst (λ l. (k : ℕ) (d : _) → k < length l → t (get_or l k d) ≡ true) same each

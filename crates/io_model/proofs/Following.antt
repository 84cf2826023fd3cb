-- One read or write after another.
use Rattle.std.proofs.Common.{◌≡◌, ℕ, ◌+◌, ◌-◌, ◌≤◌, List, [], ◌∷◌, ◌++◌, length, take, drop, take-append-drop, Option, Some, None, refl, sym, ◌∙◌, ap, arith, append_assoc}
use Rattle.std.proofs.lemmas.List.{take_rest, drop-drop, length-take-le}
use Rattle.io_model.specs.Streams.{Grows}

pub grows_more : (o m n : Option (List ℕ)) (first more : List ℕ) → Grows o m first → Grows m n more → Grows o n (first ++ more)
grows_more None None n first more one two = two
grows_more None (Some l) n first more one two = let no : ◌≡◌ {A = Option (List ℕ)} (Some l) None = one in absurd (cc)
grows_more (Some taken) None n first more one two = let no : ◌≡◌ {A = Option (List ℕ)} None (Some (taken ++ first)) = one in absurd (cc)
grows_more (Some taken) (Some l) n first more one two =
    let same : l ≡ taken ++ first = let e : ◌≡◌ {A = Option (List ℕ)} (Some l) (Some (taken ++ first)) = one in cc in
    two ∙ ap (λ (x : List ℕ). Some (x ++ more)) same ∙ ap (λ (x : List ℕ). Some x) (append_assoc taken first more)

pub none_left : (left : List ℕ) → length left ≡ 0 → left ≡ []
none_left [] is = refl
none_left (b ∷ left) is = absurd (omega arith)

-- a piece from a place on was copied to the front of another
pub piece_given : (bytes seen into : List ℕ) (at n : ℕ) → seen ≡ bytes → n ≤ length (take (length seen - at) (drop at seen))
    → take (length (take n (take (length seen - at) (drop at seen)))) into ≡ take n (take (length seen - at) (drop at seen)) → drop at bytes ≡ take n into ++ drop (at + n) bytes
piece_given bytes seen into at n same fits copied =
    let rest : take (length seen - at) (drop at seen) ≡ drop at bytes = take_rest seen at ∙ ap (drop at) same in
    let size : length (take n (take (length seen - at) (drop at seen))) ≡ n = length-take-le n (take (length seen - at) (drop at seen)) fits in
    let front : take n into ≡ take n (drop at bytes) = ap (λ (k : ℕ). take k into) (sym size) ∙ copied ∙ ap (take n) rest in
    sym (take-append-drop n (drop at bytes)) ∙ ap (λ (l : List ℕ). l ++ drop n (drop at bytes)) (sym front) ∙ ap (λ (l : List ℕ). take n into ++ l) (drop-drop n at bytes)

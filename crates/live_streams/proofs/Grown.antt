-- What a sink took, piece by piece.
use Rattle.std.proofs.Common.{◌≡◌, refl, sym, ap, ◌∙◌, ℕ, List, [], ◌++◌, append_assoc, append-nil, Option, Some, None}
use Rattle.io_model.specs.Streams.{Grows}

pub grows_none : (taken : Option (List ℕ)) → Grows taken taken []
grows_none None = refl
grows_none (Some bytes) = ap (λ (l : List ℕ). Some l) (sym (append-nil bytes))

pub grows_on : (a b c : Option (List ℕ)) (xs ys : List ℕ) → Grows a b xs → Grows b c ys → Grows a c (xs ++ ys)
grows_on None None c xs ys one other = other
grows_on None (Some l) c xs ys one other = let no : ◌≡◌ {A = Option (List ℕ)} (Some l) None = one in absurd (cc)
grows_on (Some l) None c xs ys one other = let no : ◌≡◌ {A = Option (List ℕ)} None (Some (l ++ xs)) = one in absurd (cc)
grows_on (Some l) (Some m) c xs ys one other =
    let same : m ≡ l ++ xs = let e : ◌≡◌ {A = Option (List ℕ)} (Some m) (Some (l ++ xs)) = one in cc in
    other ∙ (ap (λ (x : List ℕ). Some (x ++ ys)) same ∙ ap (λ (x : List ℕ). Some x) (append_assoc l xs ys))

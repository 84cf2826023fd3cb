-- The acts to which a transaction may still go back, by their numbers.
use Rattle.std.specs.Prelude.{◌≡◌, ◌≤◌, ⊤, ℕ, suc, Bool, true, ◌==◌, nat_le, List, [], ◌∷◌, ◌++◌}
use Rattle.std.specs.List.{filter, list_any}
use Rattle.session_books.specs.Done.{Done, Did, WentBack}

-- numbers that rise, from this one on
abbrev pub Rise : ℕ → List ℕ → Type 0
Rise low [] = ⊤
Rise low (n ∷ ns) = (low ≤ n) × Rise (suc n) ns

abbrev pub is_among : ℕ → List ℕ → Bool
is_among u ns = list_any (λ n. n == u) ns

abbrev pub up_to : ℕ → List ℕ → List ℕ
up_to u ns = filter (λ n. nat_le n u) ns

-- one act more: a going back leaves those up to where it goes, if it may go there
abbrev pub Follows : Done → ℕ → List ℕ → Bool → List ℕ → Type 0
Follows (Did op a) n old may new = (may ≡ true) × (new ≡ old ++ n ∷ [])
Follows (WentBack u) n old may new = (may ≡ is_among u old) × (may ≡ true → new ≡ up_to u old ++ n ∷ [])

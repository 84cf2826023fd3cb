-- What the types of values tell.
use Rattle.std.proofs.Common.{◌≡◌, ℕ, suc, ◌<◌, ◌≤◌, true, List, [], ◌∷◌, length, get_or, refl, nat_lt}
use Rattle.std.specs.List.{list_all}
use Rattle.std.proofs.lemmas.Bool.{and_from, lt-ltb, le-leb}
use Rattle.clv_base.specs.declared.values.Value.TheVariants.{Bytes}
use Rattle.clv_base.specs.Values.{fits_value}

bytes_pass : (bytes : List ℕ) → ((i : ℕ) → get_or bytes i 0 < 256) → list_all (λ b. nat_lt b 256) bytes ≡ true
bytes_pass [] h = refl
bytes_pass (b ∷ bytes) h = and_from _ _ (lt-ltb b 256 (h 0)) (bytes_pass bytes (λ i. h (suc i)))

pub bytes_fit : (bytes : List ℕ) → length bytes ≤ 200 → ((i : ℕ) → get_or bytes i 0 < 256) → fits_value (Bytes bytes) ≡ true
bytes_fit bytes few h = and_from _ _ (le-leb (length bytes) 200 few) (bytes_pass bytes h)

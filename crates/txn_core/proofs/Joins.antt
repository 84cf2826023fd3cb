-- The first two of three alternatives, in either order.
use Rattle.std.proofs.Common.{◌≡◌, refl, Bool, true, false, ◌||◌}

pub swapped : (a b c : Bool) → (a || (b || c)) ≡ ((b || a) || c)
swapped true true c = refl
swapped true false c = refl
swapped false true c = refl
swapped false false c = refl

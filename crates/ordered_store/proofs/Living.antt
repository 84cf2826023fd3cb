-- Live pairs of lists one behind the other.
use Rattle.std.proofs.Common.{◌≡◌, refl, ap, [], ◌∷◌, ◌++◌, Some, None}
use Rattle.clv_base.specs.Needs.{Records, live_pairs}

pub live-append : (rs ss : Records) → live_pairs (rs ++ ss) ≡ live_pairs rs ++ live_pairs ss
live-append [] ss = refl
live-append ((key, None) ∷ rs) ss = live-append rs ss
live-append ((key, Some value) ∷ rs) ss = ap (λ ps. (key, value) ∷ ps) (live-append rs ss)

-- Both sides of a shard, from each.
use Rattle.std.proofs.Common.{◌≡◌, Bool, Option, ◌∙◌, ap}
use Rattle.io_model.specs.Story.{Story}
use Rattle.io_model.specs.Sides.{both_told}

pub out_same : (a b c d : Bool) → c ≡ a → d ≡ b → ◌≡◌ {A = Bool × Bool} (c, d) (a, b)
out_same a b c d first second = let one : ◌≡◌ {A = Bool × Bool} (c, d) (a, d) = ap (λ (x : Bool). (x, d)) first in one ∙ ap (λ (x : Bool). (a, x)) second

pub told_same : (a b c d : Option Story) → c ≡ a → d ≡ b → both_told c d ≡ both_told a b
told_same a b c d first second = ap (λ (x : Option Story). both_told x d) first ∙ ap (both_told a) second

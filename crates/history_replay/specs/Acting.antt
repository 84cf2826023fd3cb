-- Acts, in the words of the definitions.
use Rattle.std.specs.Prelude.{ℕ, Bool, true, false, List, [], ◌∷◌, map}
use Rattle.std.specs.List.{list_any}
use Rattle.clv_base.specs.Maps.{KeyMap, Acts, Operates, GoesBack, Trail}
use Rattle.clv_base.specs.Maps as definitions
use Rattle.history_replay.specs.declared.acts.Act.{Act}
use Rattle.history_replay.specs.declared.acts.Act.TheVariants.{Operates as ActOperates, GoesBack as ActGoesBack}

abbrev pub is_back : Act → Bool
is_back (ActOperates number op) = false
is_back (ActGoesBack number upto) = true

abbrev pub number_of : Act → ℕ
number_of (ActOperates number op) = number
number_of (ActGoesBack number upto) = number

-- what it does
abbrev pub doing : Act → definitions.Act
doing (ActOperates number op) = Operates op
doing (ActGoesBack number upto) = GoesBack upto

abbrev pub acts_of : List Act → Acts
acts_of xs = map (λ x. (number_of x, doing x)) xs

abbrev pub some_back : List Act → Bool
some_back xs = list_any is_back xs

-- numbers and maps in the order in which they came, over a trail
abbrev pub trail_over : Trail → List (ℕ × KeyMap) → Trail
trail_over trail [] = trail
trail_over trail (p ∷ ps) = trail_over (p ∷ trail) ps

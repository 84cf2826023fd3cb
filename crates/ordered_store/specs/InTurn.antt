-- What several stores hold, one after another.
use Rattle.std.specs.Prelude.{List, [], ◌∷◌, ◌++◌}
use Rattle.clv_base.specs.Maps.{KeyMap}
use Rattle.clv_base.specs.Needs.{Records, live_pairs}

-- the live pairs of each one's records
abbrev pub live_in_turn : List Records → KeyMap
live_in_turn [] = []
live_in_turn (rs ∷ rest) = live_pairs rs ++ live_in_turn rest

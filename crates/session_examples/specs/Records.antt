-- Who made a record of a shard, what it says to be durable, and the events alone.
use Rattle.std.specs.Prelude.{ℕ, Bool, true, false, List}
use Rattle.std.specs.List.{filter}
use Rattle.session_examples.specs.declared.shard.Record.{Record}
use Rattle.session_examples.specs.declared.shard.Record.TheVariants.{Event, Mark}

-- who made it; a mark has its walker's number too
abbrev pub maker_of : Record → ℕ
maker_of (Event w n) = w
maker_of (Mark w) = w

-- how much it says to be durable
abbrev pub durable_in : Record → ℕ
durable_in (Event w n) = n
durable_in (Mark w) = 0

abbrev pub is_event : Record → Bool
is_event (Event w n) = true
is_event (Mark w) = false

-- the journal without its marks
abbrev pub events : List Record → List Record
events records = filter is_event records

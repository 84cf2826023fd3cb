-- What an event of a session names is what a log may name.
use Rattle.std.specs.Prelude.{ℕ, Bool, true, ◌&&◌, ◌==◌, nat_lt, List, map}
use Rattle.std.specs.List.{list_all, list_any}
use Rattle.clv_base.specs.declared.events.Event.{Event}
use Rattle.clv_base.specs.declared.events.Event.TheVariants.{Op, RollTo, Request, Look, Drop}
use Rattle.clv_base.specs.FileRules.{tx_has_spelling, numbers_rise}

-- touched shards: they rise, are below 16, and this one is among them
abbrev pub shards_fit : ℕ → List (ℕ × ℕ) → Bool
shards_fit shard touched = numbers_rise (map (λ t. t.0) touched) && list_all (λ t. nat_lt t.0 16) touched && list_any (λ t. t.0 == shard) touched

abbrev pub names_fit : ℕ → Event → Bool
names_fit shard (Op tx birth nth seen op) = tx_has_spelling tx
names_fit shard (RollTo tx nth seen upto) = tx_has_spelling tx
names_fit shard (Request tx touched) = tx_has_spelling tx && shards_fit shard touched
names_fit shard (Look tx) = tx_has_spelling tx
names_fit shard (Drop tx) = tx_has_spelling tx
names_fit shard _ = true

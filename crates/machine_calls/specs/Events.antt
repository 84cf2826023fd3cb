-- Which events one call makes, and the bounds of what they name.
use Rattle.std.specs.Prelude.{ℕ, Bool, true, false, ◌&&◌, ◌==◌, nat_lt, List, map}
use Rattle.std.specs.List.{list_all, list_any}
use Rattle.clv_base.specs.declared.events.Event.{Event}
use Rattle.clv_base.specs.declared.events.Event.TheVariants.{Op, RollTo, Request, Look, Drop, Deliver, FlushOut, FlushIn, Restart}
use Rattle.clv_base.specs.declared.events.Outcome.{Outcome}
use Rattle.clv_base.specs.declared.events.Outcome.TheVariants.{Sent}
use Rattle.clv_base.specs.declared.messages.Message.{Message}
use Rattle.clv_base.specs.declared.messages.Message.TheVariants.{Prepare, Vote, Decide, Done, Ask}
use Rattle.clv_base.specs.FileRules.{tx_has_spelling, numbers_rise}

-- events that one call makes: all but those of a flush and a restart
abbrev pub is_stepped : Event → Bool
is_stepped FlushOut = false
is_stepped FlushIn = false
is_stepped Restart = false
is_stepped _ = true

-- touched shards with their epochs: they rise, are shards, and this one is among them
abbrev pub touched_fit : ℕ → List (ℕ × ℕ) → Bool
touched_fit shard touched = numbers_rise (map (λ t. t.0) touched) && list_all (λ t. nat_lt t.0 16) touched && list_any (λ t. t.0 == shard) touched

-- a message names a transaction as a log may, and shards
abbrev pub message_fits : Message → Bool
message_fits (Prepare to tx home seen) = tx_has_spelling tx && nat_lt to 16 && nat_lt home 16
message_fits (Vote to tx from vote) = tx_has_spelling tx && nat_lt to 16 && nat_lt from 16
message_fits (Decide to tx home commit) = tx_has_spelling tx && nat_lt to 16 && nat_lt home 16
message_fits (Done to tx from) = tx_has_spelling tx && nat_lt to 16 && nat_lt from 16
message_fits (Ask to tx from) = tx_has_spelling tx && nat_lt to 16 && nat_lt from 16

-- an event of this shard does, and the parts of a request are as they should be
abbrev pub event_fits : ℕ → Event → Bool
event_fits shard (Op tx birth nth seen op) = tx_has_spelling tx
event_fits shard (RollTo tx nth seen upto) = tx_has_spelling tx
event_fits shard (Request tx touched) = tx_has_spelling tx && touched_fit shard touched
event_fits shard (Look tx) = tx_has_spelling tx
event_fits shard (Drop tx) = tx_has_spelling tx
event_fits shard (Deliver message stamp) = message_fits message
event_fits shard _ = true

-- what an outcome sends
abbrev pub sends_fit : Outcome → Bool
sends_fit (Sent message) = message_fits message
sends_fit _ = true

-- It is none of the parts so far.
use Rattle.std.proofs.Common.{◌≡◌, drop}
use Rattle.clv_base.specs.Events.{epoch_in}
use Rattle.shard_machine.proofs.journal.epoch_for.Given as goal

abbrev pub invariant-loop-part : goal.invariant-loop-part
invariant-loop-part l = epoch_in l.shard (drop l.part-index l.parts) ≡ epoch_in l.shard l.parts

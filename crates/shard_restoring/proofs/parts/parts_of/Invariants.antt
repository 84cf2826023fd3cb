-- The parts so far, and those of the rest, are all.
use Rattle.std.proofs.Common.{◌≡◌, ◌++◌, drop}
use Rattle.clv_base.specs.Restarts.{restored_parts}
use Rattle.shard_restoring.proofs.parts.parts_of.Given as goal

abbrev pub invariant-loop-tx : goal.invariant-loop-tx
invariant-loop-tx l = l.parts.entries ++ restored_parts (drop l.tx-index l.txs) ≡ restored_parts l.txs

use Rattle.std.proofs.Common.{◌≤◌, ◌+◌, length, drop}
use Rattle.clv_base.specs.Logs.{standing}
use Rattle.cascade_undo.specs.Writes.{writes_of}
use Rattle.shard_recovery.proofs.rebuilding.writes_standing.Given as goal

abbrev pub invariant-loop-tx : goal.invariant-loop-tx
invariant-loop-tx l =
    length (writes_of l.txs (standing l.buffer.records)) ≤ l.count + length (writes_of (drop l.tx-index l.txs) (standing l.buffer.records))

use Rattle.std.proofs.Common.{◌≡◌, take}
use Rattle.clv_base.specs.Logs.{standing}
use Rattle.cascade_undo.specs.Steps.{newest_in, lsn_of}
use Rattle.cascade_undo.proofs.marks.greatest_lsn.Given as goal

abbrev pub invariant-loop-tx : goal.invariant-loop-tx
invariant-loop-tx l = l.greatest ≡ lsn_of (newest_in (take l.tx-index l.set) (standing l.buffer.records))

use Rattle.clv_base.specs.Logs.{standing}
use Rattle.cascade_undo.specs.Steps.{AreBelow}
use Rattle.cascade_undo.proofs.write.newest_near.Given as goal

abbrev pub invariant-loop-lsn : goal.invariant-loop-lsn
invariant-loop-lsn l = AreBelow l.set l.lsn (standing l.buffer.records)

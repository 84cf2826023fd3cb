use Rattle.log_rules.proofs.Walking.{SoFar}
use Rattle.log_rules.proofs.order.in_order.Given as goal

abbrev pub invariant-loop-lsn : goal.invariant-loop-lsn
invariant-loop-lsn l = SoFar l.shard l.records l.index l.lsn

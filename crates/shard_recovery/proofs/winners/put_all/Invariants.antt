use Rattle.std.proofs.Common.{◌≡◌, [], take}
use Rattle.clv_base.specs.Restarts.{records_of}
use Rattle.shard_recovery.specs.Winning.{writes_after}
use Rattle.shard_recovery.proofs.winners.put_all.Given as goal

abbrev pub invariant-loop-write : goal.invariant-loop-write
invariant-loop-write g l = g.S.Store.records l.store ≡ records_of (writes_after (take l.write-index l.writes) [])

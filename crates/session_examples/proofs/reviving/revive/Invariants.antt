use Rattle.std.proofs.Common.{◌≡◌}
use Rattle.machine_calls.specs.Disks.{faults_of}
use Rattle.cluster_closing.specs.EndHeld.{HoldsAt, IsDiskOf}
use Rattle.session_examples.proofs.Fetching.{HasOneDisk}
use Rattle.session_examples.proofs.reviving.revive.Given as goal

abbrev pub invariant-loop-try : goal.invariant-loop-try
invariant-loop-try g l = record {
  one : HasOneDisk l.shards 0 0 l.walker;
  shard : l.fetched.shard ≡ 0;
  held : HoldsAt l.fetched.shard l.walker.number (λ layout. IsDiskOf (faults_of g.M.Disk.Disk.faults) l.fetched) l.walker.passes.items;
}

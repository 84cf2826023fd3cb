use Rattle.std.proofs.Common.{◌≡◌, ◌-◌}
use Rattle.clv_base.specs.FileRules.{passes_file_rules}
use Rattle.io_model.specs.Disk.{Tells}
use Rattle.log_gate.specs.Opening.{Looks, AreGood}
use Rattle.log_gate.proofs.Steps.{Reached}
use Rattle.log_gate.proofs.walking.read_batches.Given as goal

abbrev pub invariant-loop-at : goal.invariant-loop-at
invariant-loop-at g l = record {
  reached : Tells (g.D.Disk.story l.fn.disk) (g.D.Disk.story l.disk) (Looks (Reached (passes_file_rules l.header.splits l.header.shard) l.head l.len l.records.items l.at));
  good : AreGood (passes_file_rules l.header.splits l.header.shard) l.records.items;
  fine : g.D.Disk.faults l.disk ≡ g.D.Disk.faults l.fn.disk;
}

abbrev pub decreases-loop-at : goal.decreases-loop-at
decreases-loop-at g l = l.len - l.at

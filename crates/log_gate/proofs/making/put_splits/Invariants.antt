use Rattle.std.proofs.Common.{◌≡◌, ◌++◌, drop}
use Rattle.std.specs.List.{flat_map}
use Rattle.byteorder.specs.Endian.{little_bytes}
use Rattle.log_gate.proofs.making.put_splits.Given as goal

abbrev pub invariant-loop-split : goal.invariant-loop-split
invariant-loop-split l = l.out.items ++ flat_map (little_bytes 8) (drop l.split-index l.splits) ≡ l.fn.out.items ++ flat_map (little_bytes 8) l.splits

use Rattle.std.proofs.Common.{◌≡◌, ◌+◌, Some, Ok}
use Rattle.clv_base.specs.declared.names.Birth.{Birth}
use Rattle.cluster_turns.specs.Walkers.{IsSameWalker}
use Rattle.session_ops.specs.Standing.{IsActive}
use Rattle.session_ops.specs.Scanned.{IsUnder, IsSameTx, Scanning}
use Rattle.session_ops.proofs.EndParting.{SoFar}
use Rattle.session_ops.proofs.scanning.scan.Given as goal

abbrev pub invariant-loop-shard : goal.invariant-loop-shard
invariant-loop-shard g l =
    IsActive l.shards l.walker l.place × IsSameWalker l.fn.walker l.walker × IsSameTx l.fn.place l.place × IsUnder l.shard l.nth l.place × (l.nth ≡ (l.fn.place).nth + 1)
    × ((birth : Birth) → (l.fn.place).birth ≡ Some birth → Scanning (l.shards).splits l.shard l.fn.walker.number l.fn.walker.clock l.fn.walker.passes.items (record { tx = (l.fn.place).tx; birth = birth; nth = (l.fn.place).nth + 1; lo = l.fn.lo; hi = l.fn.hi }) (l.place).touched (Ok l.pairs.items) l.walker.clock l.walker.passes.items)
    × ((birth : Birth) → (l.fn.place).birth ≡ Some birth → SoFar l.shards birth ((l.fn.place).nth + 1) l.fn.lo l.fn.hi l.fn.walker l.fn.place l.shard l.pairs.items l.walker l.place)

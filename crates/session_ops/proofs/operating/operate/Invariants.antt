use Rattle.std.proofs.Common.{◌≡◌, Some, Err}
use Rattle.std.specs.Prelude.{◌==◌}
use Rattle.std.specs.Map.{lookup}
use Rattle.clv_base.specs.declared.names.Birth.{Birth}
use Rattle.clv_base.specs.declared.events.Event.TheVariants.{Op}
use Rattle.cluster_turns.specs.Walkers.{IsSameWalker}
use Rattle.session_ops.specs.declared.operating.OpError.TheVariants.{Memory}
use Rattle.session_ops.specs.Standing.{IsActive}
use Rattle.session_ops.specs.Operated.{Operated}
use Rattle.session_ops.proofs.operating.operate.Given as goal

abbrev pub invariant-loop : goal.invariant-loop
invariant-loop g l =
    IsActive l.shards l.walker l.place × IsSameWalker l.fn.walker l.walker × (l.place ≡ l.fn.place)
    × ((birth : Birth) → (l.fn.place).birth ≡ Some birth → Operated l.fn.walker.number l.fn.walker.clock l.fn.walker.passes.items l.fn.shard (Op (l.fn.place).tx birth l.fn.nth (lookup (◌==◌ l.fn.shard) (l.fn.place).touched) l.fn.op) (Err Memory) l.walker.clock l.walker.passes.items)

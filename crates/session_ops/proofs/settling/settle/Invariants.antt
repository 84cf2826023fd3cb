use Rattle.std.proofs.Common.{◌≡◌, length, Err}
use Rattle.cluster_turns.specs.Walkers.{IsSameWalker}
use Rattle.session_ops.specs.declared.settled_looking.SettleError.TheVariants.{Memory}
use Rattle.session_ops.specs.Requested.{IsStanding}
use Rattle.session_ops.specs.Settled.{Settling}
use Rattle.session_ops.proofs.settling.settle.Given as goal

abbrev pub invariant-loop : goal.invariant-loop
invariant-loop g l =
    IsStanding l.shards l.walker l.place l.fn.home × IsSameWalker l.fn.walker l.walker × (l.place ≡ l.fn.place)
    × Settling (length l.shards.locks.items) l.fn.walker.number l.fn.walker.clock l.fn.walker.passes.items l.fn.home l.fn.place (Err Memory) l.walker.clock l.walker.passes.items

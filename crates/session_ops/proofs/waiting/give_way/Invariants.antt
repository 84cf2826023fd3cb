use Rattle.std.proofs.Common.{Ok}
use Rattle.cluster_turns.specs.Walkers.{IsSameWalker}
use Rattle.session_ops.specs.Rounds.{Rounded}
use Rattle.session_ops.specs.Requested.{IsStanding}
use Rattle.session_ops.proofs.waiting.give_way.Given as goal

abbrev pub invariant-loop : goal.invariant-loop
invariant-loop g l =
    IsStanding l.shards l.walker l.place l.fn.home × IsSameWalker l.fn.walker l.walker × Rounded {A = Unit {0}} l.fn.walker.number l.fn.walker.clock l.fn.walker.passes.items (Ok tt) l.walker.clock l.walker.passes.items

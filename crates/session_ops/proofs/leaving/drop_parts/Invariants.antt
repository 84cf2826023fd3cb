use Rattle.cluster_turns.specs.Walkers.{IsSameWalker}
use Rattle.session_ops.specs.Dropped.{IsEnding, Dropping, IsLeft}
use Rattle.session_ops.proofs.leaving.drop_parts.Given as goal

abbrev pub invariant-loop-shard : goal.invariant-loop-shard
invariant-loop-shard g l =
    IsEnding l.shards l.walker l.place × IsSameWalker l.fn.walker l.walker × IsLeft l.fn.place l.place
    × Dropping l.fn.walker.number l.fn.walker.clock l.fn.walker.passes.items (l.fn.place).tx (l.fn.place).touched l.fn.except 0 l.shard l.answer l.walker.clock l.walker.passes.items

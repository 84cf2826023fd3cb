use Rattle.std.proofs.Common.{Ok}
use Rattle.cluster_turns.specs.Walkers.{IsWalker, IsSameWalker}
use Rattle.session_ops.specs.Rounds.{EveryCarried, Passed}
use Rattle.session_ops.proofs.rounds.carry_every.Given as goal

abbrev pub invariant-loop-shard : goal.invariant-loop-shard
invariant-loop-shard g l = IsWalker l.shards l.walker × IsSameWalker l.fn.walker l.walker × Passed {A = Unit {0}} l.own (EveryCarried l.shard) l.fn.walker.number l.fn.walker.clock l.fn.walker.passes.items l.fn.met (Ok tt) l.walker.clock l.walker.passes.items l.met

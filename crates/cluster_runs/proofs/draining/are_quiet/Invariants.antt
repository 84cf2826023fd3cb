use Rattle.std.proofs.Common.{◌≡◌, ◌<◌, ℕ, length}
use Rattle.cluster_turns.specs.Walkers.{IsWalker, IsSameWalker}
use Rattle.cluster_turns.specs.Rounds.{Rounds}
use Rattle.cluster_runs.specs.Drained.{QuietAt, SeesOn}
use Rattle.cluster_runs.proofs.draining.are_quiet.Given as goal

abbrev pub invariant-loop-shard : goal.invariant-loop-shard
invariant-loop-shard g l = record {
  walker : IsWalker l.shards l.walker;
  same : IsSameWalker l.initial.walker l.walker;
  rounds : Rounds (length l.shards.locks.items) l.initial.walker.number l.initial.walker.clock l.initial.walker.passes.items l.walker.clock l.walker.passes.items;
  quiet : (n : ℕ) → n < l.shard → QuietAt n l.walker.passes.items;
  clock : l.walker.clock ≡ l.initial.walker.clock;
  sees : SeesOn l.initial.walker.passes.items l.walker.passes.items;
}

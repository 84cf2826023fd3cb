use Rattle.std.proofs.Common.{◌≡◌, ◌<◌, ◌≤◌, ℕ, length}
use Rattle.cluster_turns.specs.Walkers.{IsWalker, IsSameWalker}
use Rattle.cluster_turns.specs.Rounds.{Rounds, SettledAt}
use Rattle.cluster_turns.specs.Dates.{last_seen}
use Rattle.cluster_runs.specs.Drained.{WasSettled, SeesOn}
use Rattle.cluster_runs.proofs.draining.last_if_settled.Given as goal

abbrev pub invariant-loop-shard : goal.invariant-loop-shard
invariant-loop-shard g l = record {
  walker : IsWalker l.shards l.walker;
  same : IsSameWalker l.initial.walker l.walker;
  rounds : Rounds (length l.shards.locks.items) l.initial.walker.number l.initial.walker.clock l.initial.walker.passes.items l.walker.clock l.walker.passes.items;
  settled : (n : ℕ) → n < l.shard → SettledAt n l.walker.passes.items × WasSettled n l.most l.walker.passes.items;
  seen : l.most ≤ last_seen l.walker.passes.items;
  clock : l.walker.clock ≡ l.initial.walker.clock;
  sees : SeesOn l.initial.walker.passes.items l.walker.passes.items;
}

use Rattle.std.proofs.Common.{◌≡◌, length}
use Rattle.cluster_turns.specs.Walkers.{IsWalker, IsSameWalker}
use Rattle.cluster_turns.specs.Rounds.{Rounds}
use Rattle.cluster_runs.specs.Drained.{SeesOn}
use Rattle.cluster_runs.proofs.draining.see_quiet.Given as goal

abbrev pub invariant-loop : goal.invariant-loop
invariant-loop g l = record {
  walker : IsWalker l.shards l.walker;
  same : IsSameWalker l.initial.walker l.walker;
  clock : l.walker.clock ≡ l.initial.walker.clock;
  rounds : Rounds (length l.shards.locks.items) l.initial.walker.number l.initial.walker.clock l.initial.walker.passes.items l.walker.clock l.walker.passes.items;
  sees : SeesOn l.initial.walker.passes.items l.walker.passes.items;
}

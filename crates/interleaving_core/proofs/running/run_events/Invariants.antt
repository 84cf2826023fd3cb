use Rattle.std.proofs.Common.{◌≡◌, drop}
use Rattle.clv_base.specs.Runs.{run_from, run_events}
use Rattle.interleaving_core.specs.Sound.{as_world, IsSound}
use Rattle.interleaving_core.proofs.running.run_events.Given as goal

abbrev pub invariant-loop-made : goal.invariant-loop-made
invariant-loop-made g l =
    (run_from l.splits (drop l.made-index l.list) (as_world (g.M.Machine.shard) l.world) ≡ run_events l.splits l.list) × IsSound (g.M.Machine.shard) (g.M.Machine.gate) l.splits l.world

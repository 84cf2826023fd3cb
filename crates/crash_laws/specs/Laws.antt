-- A law of worlds that are run by a list of steps.
use Rattle.std.specs.Prelude.{◌≡◌, ℕ, true, List}
use Rattle.clv_base.specs.declared.events.CoreStep.{CoreStep}
use Rattle.clv_base.specs.Shards.{shard_count, are_splits}
use Rattle.clv_base.specs.Runs.{run_events}
use Rattle.journal_laws.specs.Worlds.{Steady, empty_logs}

-- each keeps the rules
abbrev pub WorldsAreSteady : Type 0
WorldsAreSteady = (splits : List ℕ) (cs : List CoreStep) → are_splits splits ≡ true → Steady splits (empty_logs (shard_count splits)) (run_events splits cs)

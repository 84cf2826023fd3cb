-- A world is steady after each list of steps.
pub mod FromEmptyLogs
use Rattle.clv_base.specs.Shards.{shard_count}
use Rattle.clv_base.specs.Core.{new_world}
use Rattle.journal_laws.specs.Worlds.{empty_logs}
use Rattle.journal_laws.proofs.SteadyIsLegal.{new_steady, runs_steadily}
use Rattle.crash_laws.specs.Laws.{WorldsAreSteady}

pub worlds_are_steady : WorldsAreSteady
worlds_are_steady splits cs few = runs_steadily splits (empty_logs (shard_count splits)) cs (new_world (shard_count splits)) few (new_steady splits)

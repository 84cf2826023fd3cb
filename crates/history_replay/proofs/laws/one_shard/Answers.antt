use Rattle.history_replay.specs.Entries.{on_shard}
use Rattle.history_replay.proofs.Merging.{merged_with_none}
use Rattle.history_replay.proofs.laws.one_shard.Goals as goal

pub returns : goal.returns
returns c journal = merged_with_none (on_shard 0 journal)

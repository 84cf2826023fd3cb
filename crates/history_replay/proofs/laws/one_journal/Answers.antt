use Rattle.std.proofs.Common.{◌∙◌, ap}
use Rattle.clv_base.specs.Journals.{journal_of}
use Rattle.history_replay.specs.Entries.{on_shard}
use Rattle.history_replay.proofs.Merging.{merged_with_none, own_journal}
use Rattle.history_replay.proofs.laws.one_journal.Goals as goal

pub returns : goal.returns
returns c journal = ap (journal_of 0) (merged_with_none (on_shard 0 journal)) ∙ own_journal journal

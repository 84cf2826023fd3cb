use Rattle.std.proofs.Common.{◌∙◌}
use Rattle.history_replay.proofs.Trees.{remove_is_set}
use Rattle.history_replay.proofs.map.take_at.Goals as goal

pub returns-clause-removed : goal.returns-clause-removed
returns-clause-removed c = c.remove.ensures.entries ∙ remove_is_set c.args.key c.args.pairs.now.entries c.len-count.ensures.ordered

use Rattle.std.proofs.Common.{◌∙◌}
use Rattle.history_replay.proofs.Trees.{set_is_insert}
use Rattle.history_replay.proofs.map.put_at.Goals as goal

pub returns-clause-set : goal.returns-clause-set
returns-clause-set c = c.in_ok-insert.ensures.entries ∙ set_is_insert c.args.key c.args.value c.args.pairs.now.entries

use Rattle.std.proofs.Common.{◌∙◌}
use Rattle.history_replay.proofs.Trees.{between_none, between_is_range}
use Rattle.history_replay.proofs.map.pairs_between.Goals as goal

pub returns-then-high-low : goal.returns-then-high-low
returns-then-high-low c = c.new.ensures.items ∙ between_none c.args.low c.args.high c.if-high-low.true c.args.pairs.now.entries

pub returns : goal.returns
returns c = rw (between_is_range c.args.low c.args.high c.args.pairs.now.entries) at c.range_of.ensures

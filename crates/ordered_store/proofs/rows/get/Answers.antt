use Rattle.std.proofs.Common.{◌∙◌}
use Rattle.ordered_store.proofs.Placed.{found_here}
use Rattle.ordered_store.proofs.rows.get.Goals as goal

pub returns-in-Ok : goal.returns-in-Ok
returns-in-Ok c = c.found.ensures ∙ found_here c.args.key c.args.rows.now c.in-Ok.at c.in-Ok.ensures.there c.index-rows-at.result

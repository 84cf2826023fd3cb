use Rattle.std.proofs.Common.{◌∙◌}
use Rattle.law_base.proofs.Sets.{tx_total}
use Rattle.cascade_undo.proofs.Laws.{search_there}
use Rattle.cascade_undo.proofs.marks.contains.Goals as goal

pub returns : goal.returns
returns c = c.is_ok.ensures.value ∙ search_there tx_total c.args.tx c.args.set.now c.binary_search.result c.requires c.binary_search.ensures.bound c.binary_search.ensures.position

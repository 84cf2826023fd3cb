-- A search among rising transactions finds those that are there.
use Rattle.tx_table.proofs.Laws.{search_there}
use Rattle.law_base.proofs.Sets.{tx_total}
use Rattle.std.proofs.Common.{◌∙◌}
use Rattle.two_phase_commit.proofs.reminding.contains.Goals as goal

pub returns : goal.returns
returns c = c.is_ok.ensures.value ∙ search_there tx_total c.args.tx.now c.args.txs.now c.binary_search.result c.requires c.binary_search.ensures.bound c.binary_search.ensures.position

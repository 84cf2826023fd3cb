use Rattle.lock_table.proofs.Counts.{gaps_held-take_all}
use Rattle.lock_table.proofs.statements.takes_few_gaps.Goals as goal

pub returns : goal.returns
returns c = gaps_held-take_all

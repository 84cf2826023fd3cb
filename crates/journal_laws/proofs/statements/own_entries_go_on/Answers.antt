use Rattle.journal_laws.proofs.ViewsAreLegal.{own_entries_go_on}
use Rattle.journal_laws.proofs.statements.own_entries_go_on.Goals as goal

pub returns : goal.returns
returns c = own_entries_go_on

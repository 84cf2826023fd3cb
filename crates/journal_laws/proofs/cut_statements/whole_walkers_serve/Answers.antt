use Rattle.journal_laws.proofs.FrontsAreCuts.{whole_walkers_serve}
use Rattle.journal_laws.proofs.cut_statements.whole_walkers_serve.Goals as goal

pub returns : goal.returns
returns c = whole_walkers_serve

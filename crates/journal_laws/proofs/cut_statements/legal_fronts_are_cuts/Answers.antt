use Rattle.journal_laws.proofs.FrontsAreCuts.{legal_fronts_are_cuts}
use Rattle.journal_laws.proofs.cut_statements.legal_fronts_are_cuts.Goals as goal

pub returns : goal.returns
returns c = legal_fronts_are_cuts

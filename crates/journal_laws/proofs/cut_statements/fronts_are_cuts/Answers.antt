use Rattle.journal_laws.proofs.FrontsAreCuts.{fronts_are_cuts}
use Rattle.journal_laws.proofs.cut_statements.fronts_are_cuts.Goals as goal

pub returns : goal.returns
returns c = fronts_are_cuts

use Rattle.journal_laws.proofs.FrontsAreCuts.{moments_are_cuts}
use Rattle.journal_laws.proofs.cut_statements.moments_are_cuts.Goals as goal

pub returns : goal.returns
returns c = moments_are_cuts

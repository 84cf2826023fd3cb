use Rattle.journal_laws.proofs.EachOutcomeGoesOn.{each_outcome_goes_on}
use Rattle.journal_laws.proofs.statements.each_outcome_goes_on.Goals as goal

pub returns : goal.returns
returns c = each_outcome_goes_on

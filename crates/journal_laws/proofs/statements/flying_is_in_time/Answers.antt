use Rattle.journal_laws.proofs.EachOutcomeGoesOn.{flying_is_in_time}
use Rattle.journal_laws.proofs.statements.flying_is_in_time.Goals as goal

pub returns : goal.returns
returns c = flying_is_in_time

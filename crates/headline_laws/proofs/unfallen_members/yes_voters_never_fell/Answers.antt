use Rattle.headline_laws.proofs.YesVotersNeverFell.{yes_voters_never_fell}
use Rattle.headline_laws.proofs.unfallen_members.yes_voters_never_fell.Goals as goal

pub returns : goal.returns
returns c = yes_voters_never_fell

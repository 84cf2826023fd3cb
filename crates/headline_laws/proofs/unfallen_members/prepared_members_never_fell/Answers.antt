use Rattle.headline_laws.proofs.YesVotersNeverFell.{prepared_members_never_fell}
use Rattle.headline_laws.proofs.unfallen_members.prepared_members_never_fell.Goals as goal

pub returns : goal.returns
returns c = prepared_members_never_fell

use Rattle.headline_laws.proofs.EarlierMembersNeverFell.{earlier_members_never_fell}
use Rattle.headline_laws.proofs.unfallen_members.earlier_members_never_fell.Goals as goal

pub returns : goal.returns
returns c = earlier_members_never_fell

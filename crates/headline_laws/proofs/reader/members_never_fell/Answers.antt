use Rattle.headline_laws.proofs.ReadersPass.{members_never_fell}
use Rattle.headline_laws.proofs.reader.members_never_fell.Goals as goal

pub returns : goal.returns
returns c = members_never_fell

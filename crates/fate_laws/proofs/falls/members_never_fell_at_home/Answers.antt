use Rattle.fate_laws.proofs.FallenAreUncommitted.{members_never_fell_at_home}
use Rattle.fate_laws.proofs.falls.members_never_fell_at_home.Goals as goal

pub returns : goal.returns
returns c = members_never_fell_at_home

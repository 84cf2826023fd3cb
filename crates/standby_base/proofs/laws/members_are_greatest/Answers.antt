use Rattle.standby_base.proofs.Greatest.{members_are_greatest}
use Rattle.standby_base.proofs.laws.members_are_greatest.Goals as goal

pub returns : goal.returns
returns c = members_are_greatest

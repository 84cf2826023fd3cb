use Rattle.fate_laws.proofs.causes.causes_stand.Goals as goal
use Rattle.fate_laws.proofs.CausesStand.{causes_stand}

pub returns : goal.returns
returns c = causes_stand

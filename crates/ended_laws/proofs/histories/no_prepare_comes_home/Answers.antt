use Rattle.ended_laws.proofs.histories.no_prepare_comes_home.Goals as goal
use Rattle.ended_laws.proofs.Beside.{no_prepare_comes_home}

pub returns : goal.returns
returns c = no_prepare_comes_home

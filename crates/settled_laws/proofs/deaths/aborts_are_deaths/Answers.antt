use Rattle.settled_laws.proofs.deaths.aborts_are_deaths.Goals as goal
use Rattle.settled_laws.proofs.AbortsAreDeaths.{aborts_are_deaths}

pub returns : goal.returns
returns c = aborts_are_deaths

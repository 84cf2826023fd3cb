use Rattle.headline_laws.proofs.PartsAreTheYesVoters.{parts_are_the_yes_voters}
use Rattle.headline_laws.proofs.ending.parts_are_the_yes_voters.Goals as goal

pub returns : goal.returns
returns c = parts_are_the_yes_voters

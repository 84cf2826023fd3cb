use Rattle.history_laws.proofs.NeverTakenBack.{never_taken_back}
use Rattle.history_laws.proofs.members.never_taken_back.Goals as goal

pub returns : goal.returns
returns c = never_taken_back

use Rattle.crash_laws.proofs.AnswersAreOfEarlier.{answers_are_of_earlier}
use Rattle.crash_laws.proofs.act.answers_are_of_earlier.Goals as goal

pub returns : goal.returns
returns c = answers_are_of_earlier

use Rattle.script_runs.proofs.TriesListed.{entries_tell_their_answers}
use Rattle.script_runs.proofs.promises.entries_tell_their_answers.Goals as goal

pub returns : goal.returns
returns c = entries_tell_their_answers

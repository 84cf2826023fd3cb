use Rattle.history_laws.proofs.RequestsNameWhatAnswered.{drops_follow_aborts}
use Rattle.history_laws.proofs.session_entries.drops_follow_aborts.Goals as goal

pub returns : goal.returns
returns c = drops_follow_aborts

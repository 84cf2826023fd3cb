use Rattle.history_laws.proofs.RequestsNameWhatAnswered.{requests_name_what_answered}
use Rattle.history_laws.proofs.session_entries.requests_name_what_answered.Goals as goal

pub returns : goal.returns
returns c = requests_name_what_answered

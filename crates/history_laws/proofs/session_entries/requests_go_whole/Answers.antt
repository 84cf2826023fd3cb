use Rattle.history_laws.proofs.RequestsGoWhole.{requests_go_whole}
use Rattle.history_laws.proofs.session_entries.requests_go_whole.Goals as goal

pub returns : goal.returns
returns c = requests_go_whole

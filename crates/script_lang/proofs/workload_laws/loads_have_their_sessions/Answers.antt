use Rattle.script_lang.proofs.Narrow.{loads_have_their_sessions}
use Rattle.script_lang.proofs.workload_laws.loads_have_their_sessions.Goals as goal

pub returns : goal.returns
returns c = loads_have_their_sessions

use Rattle.script_lang.proofs.Sizes.{few_sessions}
use Rattle.script_lang.proofs.statements.scripts_have_few_sessions.Goals as goal

pub returns : goal.returns
returns c = few_sessions

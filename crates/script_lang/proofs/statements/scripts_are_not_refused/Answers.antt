use Rattle.script_lang.proofs.Unique.{not_refused}
use Rattle.script_lang.proofs.statements.scripts_are_not_refused.Goals as goal

pub returns : goal.returns
returns c = not_refused

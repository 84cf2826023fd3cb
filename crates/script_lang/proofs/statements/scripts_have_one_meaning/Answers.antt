use Rattle.script_lang.proofs.Unique.{one_script}
use Rattle.script_lang.proofs.statements.scripts_have_one_meaning.Goals as goal

pub returns : goal.returns
returns c = one_script

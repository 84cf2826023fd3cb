use Rattle.script_lang.proofs.Sizes.{narrow_scripts}
use Rattle.script_lang.proofs.statements.scripts_are_narrow.Goals as goal

pub returns : goal.returns
returns c = narrow_scripts

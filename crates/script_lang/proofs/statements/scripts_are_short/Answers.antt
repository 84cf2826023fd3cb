use Rattle.script_lang.proofs.Sizes.{short_scripts}
use Rattle.script_lang.proofs.statements.scripts_are_short.Goals as goal

pub returns : goal.returns
returns c = short_scripts

use Rattle.script_lang.proofs.Unique.{one_line}
use Rattle.script_lang.proofs.statements.refusals_have_one_line.Goals as goal

pub returns : goal.returns
returns c = one_line

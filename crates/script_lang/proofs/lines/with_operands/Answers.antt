use Rattle.std.proofs.Common.{◌∙◌, ap}
use Rattle.script_lang.specs.Reading.{verb_text}
use Rattle.script_lang.proofs.Verbs.{bytes_operands}
use Rattle.script_lang.proofs.lines.with_operands.Goals as goal

pub returns-in-None-clause-ok : goal.returns-in-None-clause-ok
returns-in-None-clause-ok c = λ action names has. let is = bytes_operands _ action (names ∙ ap verb_text c.in-Bytes.is) has in (rw c.in-None.is at c.in_ok-op-in-Bytes.ensures.ok) is.0 is.1 is.2

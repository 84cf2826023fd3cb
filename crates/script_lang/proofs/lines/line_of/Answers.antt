use Rattle.std.proofs.Common.{rules}
use Rattle.script_lang.proofs.Meanings.{no_line}
use Rattle.script_lang.proofs.lines.line_of.Goals as goal

pub returns-in-None-clause-ok : goal.returns-in-None-clause-ok
returns-in-None-clause-ok c = no_line c.args.bytes.now (search rules) (search rules) (search rules) c.in_default.ensures (rw c.in-None.is at c.in_ok-action.ensures.ok)

use Rattle.script_lang.proofs.Words.{not_parted, text_by_words}
use Rattle.script_lang.proofs.lines.bytes_of.Goals as goal

pub returns-in_default-clause-ok : goal.returns-in_default-clause-ok
returns-in_default-clause-ok c = λ k bytes is. not_parted _ is.0 is.1 c.in_default.ensures is.2

pub returns-in_default-number_of-clause-ok : goal.returns-in_default-number_of-clause-ok
returns-in_default-number_of-clause-ok c = λ k bytes is. let found = c.in-Some.ensures in c.in_default-number_of.ensures k (text_by_words _ _ _ found.0 found.1 k bytes is).0

pub returns-in-None-clause-ok : goal.returns-in-None-clause-ok
returns-in-None-clause-ok c = λ k bytes is. let found = c.in-Some.ensures in (rw c.in-None.is at c.in_ok-text.ensures.ok) bytes (text_by_words _ _ _ found.0 found.1 k bytes is).1

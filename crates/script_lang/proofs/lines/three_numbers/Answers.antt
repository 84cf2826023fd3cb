use Rattle.script_lang.proofs.Words.{not_parted, three_by_words}
use Rattle.script_lang.proofs.lines.three_numbers.Goals as goal

pub returns-in_default : goal.returns-in_default
returns-in_default c = λ k m n is. not_parted _ is.0 is.1 c.in_default.ensures is.2

pub returns-in_default-number_of : goal.returns-in_default-number_of
returns-in_default-number_of c = λ k m n is. let found = c.in-Some.ensures in c.in_default-number_of.ensures k (three_by_words _ _ _ found.0 found.1 k m n is).0

pub returns-in-None : goal.returns-in-None
returns-in-None c = λ k m n is. let found = c.in-Some.ensures in c.in-None.ensures m n (three_by_words _ _ _ found.0 found.1 k m n is).1

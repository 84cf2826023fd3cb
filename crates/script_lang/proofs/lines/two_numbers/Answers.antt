use Rattle.script_lang.proofs.Words.{not_parted, two_by_words}
use Rattle.script_lang.proofs.lines.two_numbers.Goals as goal

pub returns-in_default : goal.returns-in_default
returns-in_default c = λ m n is. not_parted _ is.0 is.1 c.in_default.ensures is.2

pub returns-in_default-number_of : goal.returns-in_default-number_of
returns-in_default-number_of c = λ m n is. let found = c.in-Some.ensures in c.in_default-number_of.ensures m (two_by_words _ _ _ found.0 found.1 m n is).0

pub returns-in_default-number_of-2 : goal.returns-in_default-number_of-2
returns-in_default-number_of-2 c = λ m n is. let found = c.in-Some.ensures in c.in_default-number_of-2.ensures n (two_by_words _ _ _ found.0 found.1 m n is).1

use Rattle.std.proofs.Common.{arith}
use Rattle.script_lang.proofs.Laws.{not_parted}
use Rattle.live_lines.proofs.CallWords.{no_number, one_number}
use Rattle.live_lines.proofs.requests.head_of.Goals as goal

pub returns-in_default : goal.returns-in_default
returns-in_default c = λ s rest is. not_parted _ is.0 rest c.in_default.ensures is.1

pub returns-in_default-number_of : goal.returns-in_default-number_of
returns-in_default-number_of c = λ s rest is. let found = c.in-Some.ensures in c.in_default-number_of.ensures s (no_number _ _ _ _ found.0 found.1 s rest is)

pub returns-then-session-eq0 : goal.returns-then-session-eq0
returns-then-session-eq0 c = λ s rest is.
    let found = c.in-Some.ensures in
    let same = one_number _ _ _ _ _ found.0 found.1 c.in-Some-number_of.ensures s rest is in
    let either = c.then-session-eq0.either in
    omega arith

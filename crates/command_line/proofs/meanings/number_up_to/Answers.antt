use Rattle.std.proofs.Common.{arith, ◌≡◌, ◌≤◌}
use Rattle.clap.specs.Words.{found_of}
use Rattle.command_line.proofs.Found.{found_some, found_none, is_up_to, up_to_is, up_to_none}
use Rattle.command_line.proofs.meanings.number_up_to.Goals as goal
use Rattle.script_lang.proofs.Laws.{number_once}

pub returns-in_default : goal.returns-in_default
returns-in_default c = up_to_none _ c.args.most c.args.otherwise (found_none (found_of c.args.given.now) c.args.name.now c.get_str.result c.get_str.ensures c.in_default.is)

pub returns-in-None : goal.returns-in-None
returns-in-None c = λ n h.
    let found = found_some (found_of c.args.given.now) c.args.name.now c.get_str.result c.in-Some.word c.get_str.ensures c.in-Some.is in
    let is = up_to_is _ c.in-Some.word.now c.as_bytes.result.now c.args.most c.args.otherwise n found c.as_bytes.ensures.value h in
    c.in-None.ensures n is.0

pub returns-then-number-eq0 : goal.returns-then-number-eq0
returns-then-number-eq0 c = λ n h.
    let found = found_some (found_of c.args.given.now) c.args.name.now c.get_str.result c.in-Some.word c.get_str.ensures c.in-Some.is in
    let is = up_to_is _ c.in-Some.word.now c.as_bytes.result.now c.args.most c.args.otherwise n found c.as_bytes.ensures.value h in
    let same : c.in-Some-number_of.number ≡ n = number_once c.as_bytes.result.now c.in-Some-number_of.number n c.in-Some-number_of.ensures is.0 in
    let low : 1 ≤ n = is.1 in omega arith

pub returns-then-number-most : goal.returns-then-number-most
returns-then-number-most c = λ n h.
    let found = found_some (found_of c.args.given.now) c.args.name.now c.get_str.result c.in-Some.word c.get_str.ensures c.in-Some.is in
    let is = up_to_is _ c.in-Some.word.now c.as_bytes.result.now c.args.most c.args.otherwise n found c.as_bytes.ensures.value h in
    let same : c.in-Some-number_of.number ≡ n = number_once c.as_bytes.result.now c.in-Some-number_of.number n c.in-Some-number_of.ensures is.0 in
    let high : n ≤ c.args.most = is.2 in omega arith

pub returns-else-number-most : goal.returns-else-number-most
returns-else-number-most c =
    is_up_to _ c.in-Some.word.now c.as_bytes.result.now c.args.most c.args.otherwise c.in-Some-number_of.number (found_some (found_of c.args.given.now) c.args.name.now c.get_str.result c.in-Some.word c.get_str.ensures c.in-Some.is)
    c.as_bytes.ensures.value c.in-Some-number_of.ensures (omega arith) (omega arith)

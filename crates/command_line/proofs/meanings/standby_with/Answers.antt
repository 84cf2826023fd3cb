use Rattle.std.proofs.Common.{length, ap, ◌∙◌, arith}
use Rattle.command_line.specs.Steps.{texts}
use Rattle.command_line.proofs.Lists.{numbers_once}
use Rattle.command_line.proofs.meanings.standby_with.Goals as goal

pub returns-clause-usage : goal.returns-clause-usage
returns-clause-usage c = λ e counts numbers few.
    let same = numbers_once (texts c.args.words.now) c.in-Ok.list.items counts c.in-Ok.ensures.numbers numbers in
    let long = ap length (c.deref.ensures.value ∙ same) in
    omega (arith, c.in-None.ensures, long, few)

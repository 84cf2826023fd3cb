use Rattle.std.proofs.Common.{ap, ◌∙◌, ◌≡◌, true, false}
use Rattle.clv_base.specs.Shards.{are_splits}
use Rattle.command_line.specs.Steps.{texts}
use Rattle.command_line.proofs.Lists.{numbers_once}
use Rattle.command_line.proofs.meanings.make_with.Goals as goal

pub returns-clause-usage : goal.returns-clause-usage
returns-clause-usage c = λ e splits numbers rise.
    let same = numbers_once (texts c.args.words.now) c.in-Ok.list.items splits c.in-Ok.ensures.numbers numbers in
    let bad : false ≡ true = c.in-Err-new.ensures.ok ∙ ap are_splits (c.deref.ensures.value ∙ same) ∙ rise in
    absurd (let no : ⊥ = cc in no)

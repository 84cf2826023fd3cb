use Rattle.std.proofs.Common.{sym, ap, ◌∙◌}
use Rattle.clv_base.specs.declared.events.Event.{Event}
use Rattle.clv_base.specs.declared.events.Event.TheVariants.{Op as OpEvent}
use Rattle.clv_base.specs.Backs.{numbers_after}
use Rattle.shard_machine.specs.Numbers.{numbers_of}
use Rattle.shard_machine.proofs.journal.note_write.Goals as goal

pub returns-in-Op : goal.returns-in-Op
returns-in-Op c = λ t.
    let e = c.in-Op in
    c.note_op.ensures t e.birth e.seen
    ∙ ap (λ (x : Event). numbers_after t x c.args.entry.now.outcome (numbers_of t c.args.numbers.now)) (ap (λ o. OpEvent e.tx e.birth e.nth e.seen o) c.op.ensures ∙ sym e.is)

pub returns-in-RollTo : goal.returns-in-RollTo
returns-in-RollTo c = λ t.
    let e = c.in-RollTo in
    c.note_back.ensures t e.nth e.seen ∙ ap (λ (x : Event). numbers_after t x c.args.entry.now.outcome (numbers_of t c.args.numbers.now)) (sym e.is)

-- What is kept is of one entry more.
use Rattle.std.proofs.Common.{refl, ◌∙◌, sym, ap, subst, arith, length, [], ◌∷◌, ◌<◌, length-append}
use Rattle.clv_base.specs.Backs.{standing_numbers, numbers_after}
use Rattle.clv_base.specs.Events.{request_epoch}
use Rattle.shard_machine.specs.Journaled.{Journaled, MayEnter, named_by, first_or}
use Rattle.shard_machine.proofs.Naming.{one_more, one_number_more, place_for, write_for}
use Rattle.shard_machine.proofs.journal.Journal.push.Goals as goal

pub note_entry-requires : goal.note_entry-requires
note_entry-requires c =
    let i = c.self.inside in let j : Journaled = record { shard = i.shard; entries = i.entries.items; places = i.epochs.room; writes = i.numbers.room } in
    place_for j c.args.entry.event (subst (λ (v : Journaled). MayEnter v c.args.entry.event) (sym c.self.view_is) c.requires.place)

pub note_write-requires : goal.note_write-requires
note_write-requires c =
    let i = c.self.inside in let j : Journaled = record { shard = i.shard; entries = i.entries.items; places = i.epochs.room; writes = i.numbers.room } in
    write_for j i.numbers c.args.entry.event refl c.self.invariant.numbers (subst (λ (v : Journaled). MayEnter v c.args.entry.event) (sym c.self.view_is) c.requires.place)

pub overflow_add-self : goal.overflow_add-self
overflow_add-self c =
    let few : length c.self.inside.entries.items < c.args.entry.stamp = subst (λ (v : Journaled). length v.entries < c.args.entry.stamp) (sym c.self.view_is) c.requires.few in
    let count = c.self.invariant.count in let fine = c.well_formed in omega (arith, few, count)

pub invariant_of-self : goal.invariant_of-self
invariant_of-self c =
    let i = c.self.inside in record {
      count = omega (arith, c.self.invariant.count, ap length c.push.ensures, length-append i.entries.items (c.args.entry ∷ []));
      epochs = λ t. c.note_entry.ensures t ∙ ap (λ o. first_or o (named_by i.shard t c.args.entry)) (c.self.invariant.epochs t) ∙ sym (one_more i.shard t i.entries.items c.args.entry)
          ∙ ap (request_epoch i.shard t) (sym c.push.ensures);
      numbers = λ t. c.note_write.ensures t ∙ ap (numbers_after t c.args.entry.event c.args.entry.outcome) (c.self.invariant.numbers t) ∙ sym (one_number_more t i.entries.items c.args.entry)
          ∙ ap (standing_numbers t) (sym c.push.ensures);
    }

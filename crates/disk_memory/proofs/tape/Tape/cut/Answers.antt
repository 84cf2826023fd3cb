use Rattle.std.proofs.Common.{arith, ◌≡◌, ◌+◌, ◌*◌, ◌≤◌, length, refl, sym, subst}
use Rattle.io_model.specs.Story.{Cut, after, reads}
use Rattle.disk_memory.specs.Told.{View, story_of}
use Rattle.disk_memory.specs.declared.noted.Noted.TheVariants as notes
use Rattle.disk_memory.specs.Fails.{bytes_written}
use Rattle.disk_memory.proofs.Sound.{in_fields, push_none, sound_cut}
use Rattle.disk_memory.proofs.tape.Tape.cut.Goals as goal

pub invariant_of-self : goal.invariant_of-self
invariant_of-self c =
    sound_cut _ _ _ _ _ _ _ _ c.self.invariant c.args.len _ _ _ _ c.truncate.ensures.items c.push_reserved.ensures.items c.truncate.ensures.capacity c.push_reserved.ensures.capacity
    (in_fields _ _ _ _ _ _ _ _ c.self.invariant _ (subst (λ (v : View). length (reads v.story) + bytes_written v.story.calls + 24 * (length v.story.calls + 1) ≤ v.room) (sym c.self.view_is) c.requires.room))

pub returns-clause-story : goal.returns-clause-story
returns-clause-story c =
    subst (λ (v : View). story_of c.self.inside.start.items c.push_reserved.new.self.items c.self.inside.written.items ≡ after (Cut c.args.len) v.story) c.self.view_is
    (push_none _ _ _ _ _ _ _ _ c.self.invariant (notes.Cut c.args.len) _ refl c.push_reserved.ensures.items)

pub push_reserved-requires : goal.push_reserved-requires
push_reserved-requires c =
    omega (
      arith,
      c.self.invariant.for_notes,
      in_fields _ _ _ _ _ _ _ _ c.self.invariant _ (subst (λ (v : View). length (reads v.story) + bytes_written v.story.calls + 24 * (length v.story.calls + 1) ≤ v.room) (sym c.self.view_is) c.requires.room),
    )

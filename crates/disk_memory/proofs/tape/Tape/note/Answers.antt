use Rattle.std.proofs.Common.{arith, ◌≡◌, ◌+◌, ◌*◌, ◌≤◌, [], length, sym, subst}
use Rattle.io_model.specs.Story.{after, reads}
use Rattle.disk_memory.specs.Noted.{call_of}
use Rattle.disk_memory.specs.Told.{View, story_of}
use Rattle.disk_memory.specs.Fails.{bytes_written}
use Rattle.disk_memory.proofs.Sound.{in_fields, push_none, sound_quiet, quiet_size}
use Rattle.disk_memory.proofs.tape.Tape.note.Goals as goal

pub invariant_of-self : goal.invariant_of-self
invariant_of-self c =
    sound_quiet _ _ _ _ _ _ _ _ c.self.invariant c.args.note _ _ c.requires.quiet c.push_reserved.ensures.items c.push_reserved.ensures.capacity
    (in_fields _ _ _ _ _ _ _ _ c.self.invariant _ (subst (λ (v : View). length (reads v.story) + bytes_written v.story.calls + 24 * (length v.story.calls + 1) ≤ v.room) (sym c.self.view_is) c.requires.room))

pub returns-clause-story : goal.returns-clause-story
returns-clause-story c =
    subst (λ (v : View). story_of c.self.inside.start.items c.push_reserved.new.self.items c.self.inside.written.items ≡ after (call_of v.story.start v.story.calls c.args.note []) v.story) c.self.view_is
    (push_none _ _ _ _ _ _ _ _ c.self.invariant c.args.note _ (quiet_size c.args.note c.requires.quiet) c.push_reserved.ensures.items)

pub push_reserved-requires : goal.push_reserved-requires
push_reserved-requires c =
    omega (
      arith,
      c.self.invariant.for_notes,
      in_fields _ _ _ _ _ _ _ _ c.self.invariant _ (subst (λ (v : View). length (reads v.story) + bytes_written v.story.calls + 24 * (length v.story.calls + 1) ≤ v.room) (sym c.self.view_is) c.requires.room),
    )

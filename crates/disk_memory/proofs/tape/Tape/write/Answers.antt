use Rattle.std.proofs.Common.{arith, ◌≡◌, ◌+◌, ◌*◌, ◌≤◌, max, length, sym, subst}
use Rattle.io_model.specs.Story.{Write, after, reads}
use Rattle.disk_memory.specs.Told.{View, story_of}
use Rattle.disk_memory.specs.Fails.{bytes_written}
use Rattle.disk_memory.proofs.Sound.{in_fields_write, push_write, sound_write}
use Rattle.disk_memory.proofs.tape.Tape.write.Goals as goal

pub invariant_of-self : goal.invariant_of-self
invariant_of-self c =
    sound_write _ _ _ _ _ _ _ _ c.self.invariant c.args.at c.args.bytes.now _ _ _ _ _ _ c.write_within.ensures.items c.append.ensures.items c.push_reserved.ensures.items c.write_within.ensures.capacity c.append.ensures.capacity c.push_reserved.ensures.capacity
    (in_fields_write _ _ _ _ _ _ _ _ c.self.invariant _ _ (subst (λ (v : View). max (length (reads v.story)) (c.args.at + length c.args.bytes.now) + bytes_written v.story.calls + length c.args.bytes.now + 24 * (length v.story.calls + 1) ≤ v.room) (sym c.self.view_is) c.requires.room))

pub returns-clause-story : goal.returns-clause-story
returns-clause-story c =
    subst (λ (v : View). story_of c.self.inside.start.items c.push_reserved.new.self.items c.append.new.into.items ≡ after (Write c.args.at c.args.bytes.now) v.story) c.self.view_is
    (push_write _ _ _ _ _ _ _ _ c.self.invariant c.args.at c.args.bytes.now _ _ c.append.ensures.items c.push_reserved.ensures.items)

pub append-requires : goal.append-requires
append-requires c =
    omega (
      arith,
      c.self.invariant.for_written,
      in_fields_write _ _ _ _ _ _ _ _ c.self.invariant _ _
          (subst (λ (v : View). max (length (reads v.story)) (c.args.at + length c.args.bytes.now) + bytes_written v.story.calls + length c.args.bytes.now + 24 * (length v.story.calls + 1) ≤ v.room) (sym c.self.view_is) c.requires.room),
    )

pub push_reserved-requires : goal.push_reserved-requires
push_reserved-requires c =
    omega (
      arith,
      c.self.invariant.for_notes,
      in_fields_write _ _ _ _ _ _ _ _ c.self.invariant _ _
          (subst (λ (v : View). max (length (reads v.story)) (c.args.at + length c.args.bytes.now) + bytes_written v.story.calls + length c.args.bytes.now + 24 * (length v.story.calls + 1) ≤ v.room) (sym c.self.view_is) c.requires.room),
    )

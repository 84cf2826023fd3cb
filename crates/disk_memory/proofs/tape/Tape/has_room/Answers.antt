use Rattle.std.proofs.Common.{◌≡◌, ◌+◌, ◌*◌, nat_le, length, arith, ◌∙◌, subst}
use Rattle.disk_memory.specs.Told.{View}
use Rattle.disk_memory.specs.Fails.{bytes_written}
use Rattle.disk_memory.proofs.Sound.{room_in_fields}
use Rattle.disk_memory.proofs.tape.Tape.has_room.Goals as goal

pub returns : goal.returns
returns c =
    c.holds.ensures
    ∙ subst (λ (v : View). nat_le (c.args.len + c.len.result + c.args.more + 24 * (c.len-2.result + 1)) c.self.inside.room ≡ nat_le (c.args.len + bytes_written v.story.calls + c.args.more + 24 * (length v.story.calls + 1)) v.room) c.self.view_is
    (room_in_fields _ _ _ _ _ _ _ _ c.self.invariant c.args.len c.args.more c.len.result c.len-2.result (omega (arith, c.len.ensures)) (omega (arith, c.len-2.ensures)))

use Rattle.std.proofs.Common.{◌≡◌, ◌≤◌, ◌++◌, take, vec_capacity}
use Rattle.log_buffer.specs.Flushing.{spellings}
use Rattle.log_buffer.proofs.payload.spell.Given as goal

abbrev pub invariant-loop-record : goal.invariant-loop-record
invariant-loop-record l =
    (l.out.items ≡ (l.initial.out).items ++ spellings (take l.record-index l.fn.records)) × (vec_capacity l.initial.out ≤ vec_capacity l.out)

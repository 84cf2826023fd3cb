-- The spellings of those so far stand behind what was there.
use Rattle.std.proofs.Common.{◌≡◌, ◌≤◌, ◌++◌, take, vec_capacity}
use Rattle.log_buffer.specs.Batches.{spellings}
use Rattle.log_buffer.proofs.spelling.spell.Given as goal

abbrev pub invariant-loop-record : goal.invariant-loop-record
invariant-loop-record l =
    (l.out.items ≡ (l.initial.out).items ++ spellings (take l.record-index l.fn.records)) × (vec_capacity l.initial.out ≤ vec_capacity l.out)

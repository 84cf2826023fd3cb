use Rattle.std.proofs.Common.{◌≡◌, ◌+◌, drop, take}
use Rattle.log_buffer.specs.Buffers.{fitting_by, sizes}
use Rattle.log_buffer.proofs.batch.fitting.Given as goal

abbrev pub invariant-loop-count : goal.invariant-loop-count
invariant-loop-count g l =
    (l.count + fitting_by g.R.Measured.size l.left (drop l.count l.records) ≡ fitting_by g.R.Measured.size l.limit l.records)
    × (sizes g.R.Measured.size (take l.count l.records) + l.left ≡ l.limit)

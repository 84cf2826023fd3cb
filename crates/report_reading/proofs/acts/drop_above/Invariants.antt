use Rattle.std.proofs.Common.{◌≡◌, vec_len}
use Rattle.report_reading.specs.Standing.{Rise, up_to}
use Rattle.report_reading.proofs.acts.drop_above.Given as goal

abbrev pub invariant-loop-last : goal.invariant-loop-last
invariant-loop-last l = record { rises : Rise 0 l.standing.items; same : up_to l.upto l.standing.items ≡ up_to l.upto l.initial.standing.items }

abbrev pub decreases-loop-last : goal.decreases-loop-last
decreases-loop-last l = vec_len l.standing

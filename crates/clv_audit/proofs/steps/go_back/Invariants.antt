use Rattle.std.proofs.Common.{◌≡◌, vec_len}
use Rattle.report_reading.specs.Standing.{Rise}
use Rattle.clv_audit.specs.Keeping.{undone, steps_above, steps_up_to, numbers_of}
use Rattle.clv_audit.proofs.steps.go_back.Given as goal

abbrev pub invariant-loop-last : goal.invariant-loop-last
invariant-loop-last l =
    record {
      rises : Rise 0 (numbers_of l.steps.items);
      pairs : undone (steps_above l.upto l.steps.items) l.pairs ≡ undone (steps_above l.upto l.initial.steps.items) l.initial.pairs;
      steps : steps_up_to l.upto l.steps.items ≡ steps_up_to l.upto l.initial.steps.items;
    }

abbrev pub decreases-loop-last : goal.decreases-loop-last
decreases-loop-last l = vec_len l.steps

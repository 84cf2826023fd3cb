use Rattle.std.proofs.Common.{◌≡◌, ℕ, ◌+◌, List, [], drop}
use Rattle.clv_base.specs.Backs.{are_numbered}
use Rattle.report_reading.specs.Told.{numbered, numbered_from}
use Rattle.report_reading.proofs.Numbering.{Standing}
use Rattle.report_reading.proofs.acts.are_numbered.Given as goal

abbrev pub invariant-loop-done : goal.invariant-loop-done
invariant-loop-done l =
    record {
      number : l.number ≡ l.done-index + 1;
      standing : (backs : List (ℕ × ℕ)) × Standing l.number l.standing.items backs × (are_numbered 0 [] (numbered l.acts) ≡ are_numbered l.done-index backs (numbered_from l.number (drop l.done-index l.acts)));
    }

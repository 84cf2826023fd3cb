use Rattle.std.proofs.Common.{◌≡◌, drop}
use Rattle.clv_audit.proofs.Going.{Going}
use Rattle.clv_audit.proofs.steps.acts_are_right.Given as goal

abbrev pub invariant-loop-done : goal.invariant-loop-done
invariant-loop-done l =
    record {
      number : l.number ≡ l.done-index;
      going : Going l.fn.pairs l.acts (drop l.done-index l.acts) l.number l.steps.items l.pairs;
    }

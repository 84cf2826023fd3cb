-- What the machine is seen as stays.
use Rattle.std.proofs.Common.{◌≡◌}
use Rattle.lean_machine.proofs.machine.LeanMachine.forget_committed.Given as goal

abbrev pub invariant-loop-lsn : goal.invariant-loop-lsn
invariant-loop-lsn g l = l.self ≡ l.initial.self

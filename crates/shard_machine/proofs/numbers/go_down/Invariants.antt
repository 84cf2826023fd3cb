use Rattle.std.proofs.Common.{◌≤◌, ◌<◌, ◌+◌, length, Some, IfSome}
use Rattle.shard_machine.specs.Numbers.{stacks, numbers_at}
use Rattle.shard_machine.proofs.Numbering.{Down, left}
use Rattle.shard_machine.proofs.numbers.go_down.Given as goal

abbrev pub invariant-loop-place : goal.invariant-loop-place
invariant-loop-place l = record {
  down : Down (stacks l.notes) l.upto (numbers_at (stacks l.notes) (Some l.from)) l.passed l.place;
  there : IfSome l.place (λ i. i < length l.notes);
  few : l.passed + left l.place ≤ length l.notes;
}

abbrev pub decreases-loop-place : goal.decreases-loop-place
decreases-loop-place l = left l.place

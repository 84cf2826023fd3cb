-- The calls so far are made, and each has its answer.
use Rattle.std.proofs.Common.{◌≡◌, ◌≤◌, length, take, vec_len, vec_capacity}
use Rattle.callers.specs.LockRuns.{Runs}
use Rattle.callers.proofs.lock_running.run_calls.Given as goal

abbrev pub invariant-loop-call : goal.invariant-loop-call
invariant-loop-call g l = record {
  made : Runs (take l.call-index l.calls) l.answers.items (g.L.Locks.rows l.initial.locks) (g.L.Locks.rows l.locks);
  count : vec_len l.answers ≡ l.call-index;
  room : length l.calls ≤ vec_capacity l.answers;
}

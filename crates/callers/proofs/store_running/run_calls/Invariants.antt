-- The calls so far are made, and each has its answer.
use Rattle.std.proofs.Common.{◌≡◌, ◌≤◌, length, take, vec_len, vec_capacity}
use Rattle.callers.specs.StoreRuns.{answers_of, records_after}
use Rattle.callers.proofs.store_running.run_calls.Given as goal

abbrev pub invariant-loop-call : goal.invariant-loop-call
invariant-loop-call g l = record {
  answers : l.answers.items ≡ answers_of (take l.call-index l.calls) (g.S.Store.records l.initial.store);
  records : g.S.Store.records l.store ≡ records_after (take l.call-index l.calls) (g.S.Store.records l.initial.store);
  count : vec_len l.answers ≡ l.call-index;
  room : length l.calls ≤ vec_capacity l.answers;
}

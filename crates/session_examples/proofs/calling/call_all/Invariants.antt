use Rattle.std.proofs.Common.{◌≡◌, ◌+◌, vec_len, vec_capacity}
use Rattle.session_api.specs.Savepoints.{Saved}
use Rattle.session_api.specs.Standing.{Holds}
use Rattle.session_examples.proofs.calling.call_all.Given as goal

abbrev pub invariant-loop-call : goal.invariant-loop-call
invariant-loop-call g l = record {
  session : Holds l.session.shards.now l.session.walker l.session.progress;
  saved : Saved l.session.progress l.session.saves.items;
  shards : l.session.shards ≡ l.fn.session.shards;
  number : l.session.walker.number ≡ l.fn.session.walker.number;
  len : vec_len l.answers ≡ vec_len l.fn.answers + l.call-index;
  room : vec_capacity l.answers ≡ vec_capacity l.fn.answers;
}

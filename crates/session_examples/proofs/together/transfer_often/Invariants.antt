use Rattle.std.proofs.Common.{◌≡◌, ◌≤◌, None}
use Rattle.session_api.specs.Progresses.{active_tx}
use Rattle.session_api.specs.Savepoints.{Saved}
use Rattle.session_api.specs.Standing.{Holds}
use Rattle.session_examples.proofs.together.transfer_often.Given as goal

abbrev pub invariant-loop-step : goal.invariant-loop-step
invariant-loop-step g l = record {
  session : Holds l.session.shards.now l.session.walker l.session.progress;
  saved : Saved l.session.progress l.session.saves.items;
  idle : active_tx l.session.progress ≡ None;
  shards : l.session.shards ≡ l.fn.session.shards;
  number : l.session.walker.number ≡ l.fn.session.walker.number;
  few : l.moved ≤ l.step;
}

use Rattle.std.proofs.Common.{◌≡◌}
use Rattle.session_api.specs.Savepoints.{Saved}
use Rattle.session_api.specs.Sessions.{IsSession}
use Rattle.session_examples.specs.Later.{IsLater}
use Rattle.session_examples.specs.Moves.{IsFresh}
use Rattle.session_examples.proofs.transfers.run_tries.Given as goal

abbrev pub invariant-loop-again : goal.invariant-loop-again
invariant-loop-again g l = record {
  session : IsSession l.session.shards.now l.session.walker l.session.progress;
  saved : Saved l.session.progress l.session.saves.items;
  shards : l.session.shards ≡ l.fn.session.shards;
  later : IsLater l.fn.session.walker l.session.walker;
  fresh : IsFresh l.session.shards.now l.session.walker l.session.progress;
}

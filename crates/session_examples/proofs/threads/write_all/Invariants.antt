use Rattle.std.proofs.Common.{◌≡◌}
use Rattle.turn_lock.specs.Passes.{number, own, IsPassOf}
use Rattle.session_examples.specs.Numbered.{written}
use Rattle.session_examples.proofs.threads.write_all.Given as goal

abbrev pub invariant-loop-number : goal.invariant-loop-number
invariant-loop-number g l = IsPassOf l.lock l.pass × (number l.pass ≡ l.walker) × (own l.pass ≡ written l.walker l.number)

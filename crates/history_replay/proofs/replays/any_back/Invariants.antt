use Rattle.std.proofs.Common.{◌≡◌, drop}
use Rattle.history_replay.specs.Acting.{some_back}
use Rattle.history_replay.proofs.replays.any_back.Given as goal

abbrev pub invariant-loop-act : goal.invariant-loop-act
invariant-loop-act l = some_back (drop l.act-index l.acts) ≡ some_back l.acts

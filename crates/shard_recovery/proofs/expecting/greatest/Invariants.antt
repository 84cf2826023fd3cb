use Rattle.std.proofs.Common.{◌≡◌, drop}
use Rattle.clv_base.specs.Restarts.{greatest_epoch}
use Rattle.shard_recovery.proofs.expecting.greatest.Given as goal

abbrev pub invariant-loop-found : goal.invariant-loop-found
invariant-loop-found l = greatest_epoch l.run l.so_far (drop l.found-index l.log) ≡ greatest_epoch l.run l.own l.log

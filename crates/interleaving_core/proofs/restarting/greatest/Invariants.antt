use Rattle.std.proofs.Common.{◌≡◌, drop}
use Rattle.clv_base.specs.Restarts.{greatest_epoch}
use Rattle.interleaving_core.proofs.restarting.greatest.Given as goal

abbrev pub invariant-loop-found : goal.invariant-loop-found
invariant-loop-found l = greatest_epoch 1 l.so_far (drop l.found-index l.log) ≡ greatest_epoch 1 l.own l.log

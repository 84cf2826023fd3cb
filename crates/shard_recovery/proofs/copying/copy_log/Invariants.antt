use Rattle.std.proofs.Common.{◌≡◌, take}
use Rattle.shard_recovery.proofs.copying.copy_log.Given as goal

abbrev pub invariant-loop-found : goal.invariant-loop-found
invariant-loop-found l = l.copied.items ≡ take l.found-index l.log

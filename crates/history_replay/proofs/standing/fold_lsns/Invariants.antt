use Rattle.std.proofs.Common.{◌≡◌, drop}
use Rattle.clv_base.specs.Logs.{fold_writes, standing}
use Rattle.history_replay.specs.Transactions.{has_member}
use Rattle.history_replay.proofs.standing.fold_lsns.Given as goal

-- the older ones are done
abbrev pub invariant-loop-place : goal.invariant-loop-place
invariant-loop-place l = l.pairs ≡ fold_writes (has_member l.set) (drop l.place (standing l.log)) l.fn.pairs

use Rattle.std.proofs.Common.{◌≡◌, drop}
use Rattle.history_replay.specs.Transactions.{has_member}
use Rattle.standby_maps.specs.Cuts.{cut_from}
use Rattle.standby_maps.proofs.membership.cut.Given as goal

abbrev pub invariant-loop-place : goal.invariant-loop-place
invariant-loop-place l = cut_from l.place (has_member l.set) (drop l.place l.log) ≡ cut_from 0 (has_member l.set) l.log

use Rattle.std.proofs.Common.{◌≡◌, map, take}
use Rattle.history_replay.specs.Transactions.{has_member}
use Rattle.standby_maps.specs.Cuts.{cuts_of}
use Rattle.standby_maps.proofs.membership.cuts.Given as goal

abbrev pub invariant-loop-log : goal.invariant-loop-log
invariant-loop-log l = l.cuts.items ≡ cuts_of (has_member l.set) (map (λ v. v.items) (take l.log-index l.logs))

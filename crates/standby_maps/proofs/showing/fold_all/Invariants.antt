use Rattle.std.proofs.Common.{◌≡◌, drop, map}
use Rattle.history_replay.specs.Transactions.{has_member}
use Rattle.standby_maps.specs.Shown.{shown_by}
use Rattle.standby_maps.proofs.showing.fold_all.Given as goal

abbrev pub invariant-loop-log : goal.invariant-loop-log
invariant-loop-log l = shown_by (has_member l.set) (map (λ v. v.items) (drop l.log-index l.streams)) l.pairs ≡ shown_by (has_member l.set) (map (λ v. v.items) l.streams) l.fn.pairs

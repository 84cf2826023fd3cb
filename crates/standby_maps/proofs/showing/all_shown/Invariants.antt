use Rattle.std.proofs.Common.{◌≡◌, drop, map}
use Rattle.std.specs.List.{list_all}
use Rattle.history_replay.specs.Transactions.{has_member}
use Rattle.standby_maps.specs.Shown.{is_shown_by}
use Rattle.standby_maps.proofs.showing.all_shown.Given as goal

abbrev pub invariant-loop-log : goal.invariant-loop-log
invariant-loop-log l = list_all (is_shown_by (has_member l.set)) (map (λ v. v.items) (drop l.log-index l.streams)) ≡ list_all (is_shown_by (has_member l.set)) (map (λ v. v.items) l.streams)

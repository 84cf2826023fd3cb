use Rattle.std.proofs.Common.{◌≡◌, drop}
use Rattle.standby_base.specs.Standby.{whole_from}
use Rattle.standby_maps.proofs.membership.is_kept.Given as goal

abbrev pub invariant-loop-home : goal.invariant-loop-home
invariant-loop-home l = whole_from l.logs l.tx l.home (drop l.home l.logs) ≡ whole_from l.logs l.tx 0 l.logs

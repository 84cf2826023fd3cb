use Rattle.std.proofs.Common.{◌≡◌}
use Rattle.standby_base.specs.Standby.{kept_through, standby_members}
use Rattle.standby_maps.proofs.membership.rounds.Given as goal

-- the rounds that are left lead to the members
abbrev pub invariant-loop-left : goal.invariant-loop-left
invariant-loop-left l = kept_through l._left l.logs l.txs.items ≡ standby_members l.logs

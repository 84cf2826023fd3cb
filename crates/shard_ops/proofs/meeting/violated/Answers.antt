use Rattle.std.proofs.Common.{sym, subst}
use Rattle.std.specs.List.Sorted.{IsStrictlySortedBy}
use Rattle.clv_base.specs.Orders.{tx_cmp}
use Rattle.clv_base.specs.Logs.{has_standing}
use Rattle.law_base.proofs.Sets.{filter_rises}
use Rattle.shard_ops.proofs.meeting.violated.Goals as goal

pub returns-in-Ok-clause-rising : goal.returns-in-Ok-clause-rising
returns-in-Ok-clause-rising g c =
    subst (IsStrictlySortedBy tx_cmp) (sym c.keep_standing.ensures) (filter_rises (has_standing c.args.buffer.now.records) c.in-Ok.violated.items c.in-Ok.ensures.rising)

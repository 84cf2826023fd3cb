use Rattle.std.proofs.Common.{sym, ◌∙◌}
use Rattle.standby_maps.proofs.InTime.{whole_then, whole_else}
use Rattle.standby_maps.proofs.membership.is_home.Goals as goal

pub returns-then-is_committed : goal.returns-then-is_committed
returns-then-is_committed c =
    whole_then c.args.logs.now c.args.tx c.args.home c.args.log.now c.agrees.result c.parts.result.now (sym c.is_committed.ensures ∙ c.if-is_committed.true) c.parts.ensures c.agrees.ensures

pub returns-else-is_committed : goal.returns-else-is_committed
returns-else-is_committed c = c.if-is_committed.false ∙ whole_else c.args.logs.now c.args.tx c.args.home c.args.log.now (sym c.is_committed.ensures ∙ c.if-is_committed.false)

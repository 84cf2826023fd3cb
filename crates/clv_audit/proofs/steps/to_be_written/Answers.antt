use Rattle.std.proofs.Common.{sym, ap, ◌∙◌}
use Rattle.clv_base.specs.Maps.{map_set, op_after}
use Rattle.clv_audit.proofs.Undoing.{op_back, op_idle}
use Rattle.clv_audit.proofs.steps.to_be_written.Goals as goal

pub returns-in-Some : goal.returns-in-Some
returns-in-Some c =
    ap (λ b. map_set c.in-Some.key b (op_after c.args.op.now c.args.pairs.now)) c.get.ensures
    ∙ op_back c.args.op.now c.in-Some.key c.args.pairs.now c.requires (sym c.in-Some.ensures)

pub returns-in-None : goal.returns-in-None
returns-in-None c = op_idle c.args.op.now c.args.pairs.now (sym c.in-None.ensures)

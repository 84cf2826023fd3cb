use Rattle.std.proofs.Common.{sym, subst, ◌∙◌}
use Rattle.std.proofs.lemmas.Result.{IfOk-weaker}
use Rattle.clv_base.specs.Checkpoints.{check_records}
use Rattle.checkpoint_taking.specs.Cut.{IsCut}
use Rattle.checkpoint_taking.proofs.Cutting.{is_cut}
use Rattle.checkpoint_taking.proofs.taking.checkpoint_of.Goals as goal

pub returns-clause-records : goal.returns-clause-records
returns-clause-records c =
    let records = check_records c.args.shard c.args.log.now in
    IfOk-weaker c.into_payloads.result _ _
    (λ ps e. subst (IsCut records) (sym (e ∙ c.in_ok-batches_of.ensures)) (is_cut records))
    c.into_payloads.ensures.payloads

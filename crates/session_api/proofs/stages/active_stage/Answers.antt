use Rattle.std.proofs.Common.{sym, subst}
use Rattle.script_runs.specs.declared.calls.Stage.TheVariants as stage
use Rattle.script_runs.specs.Seen.{IsStage}
use Rattle.session_api.specs.Standing.{active_as}
use Rattle.session_api.proofs.Standings.{stage_active}
use Rattle.session_api.proofs.stages.active_stage.Goals as goal

pub returns : goal.returns
returns c = let p = c.args.place.now in
    subst (λ b. IsStage (active_as p p.birth) (stage.Active b)) (sym c.is_some.ensures)
    (stage_active p p.birth c.birth-birth.result c.home.result c.birth-birth.ensures c.home.ensures.none c.home.ensures.lowest)

-- The room that is reserved on the needs' anchors serves all of them.
use Rattle.std.proofs.Common.{◌∙◌, List, subst, sym}
use Rattle.std.specs.List.{All, Contains}
use Rattle.std.proofs.lemmas.Result.{on_ok_weaker}
use Rattle.std.proofs.lemmas.List.Elements.{All-contains_itself}
use Rattle.clv_base.specs.declared.modes.Anchor.{Anchor}
use Rattle.lock_table.specs.Rows.{anchors_of}
use Rattle.callers.proofs.lock_taking.reserve_needed.Goals as goal

pub returns-clause-ok : goal.returns-clause-ok
returns-clause-ok g c =
    let same = c.deref.ensures.value ∙ c.in_ok-anchors.ensures in
    on_ok_weaker c.reserve.result (λ room. room (anchors_of c.args.needs.now) (subst (λ (l : List Anchor). All (Contains l) (anchors_of c.args.needs.now)) (sym same) (All-contains_itself (anchors_of c.args.needs.now)))) c.reserve.ensures.ok

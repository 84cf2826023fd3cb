-- A granted operation of a transaction with a spelling leaves spellings alone.
use Rattle.std.proofs.Common.{◌≡◌, sym, ap, subst, ◌∙◌, List, Option}
use Rattle.clv_base.specs.declared.names.TxId.{TxId}
use Rattle.clv_base.specs.declared.names.Birth.{Birth}
use Rattle.clv_base.specs.declared.ops.Op.{Op}
use Rattle.clv_base.specs.declared.modes.Need.{Need}
use Rattle.clv_base.specs.State.{Local}
use Rattle.clv_base.specs.OneShard.{performed, violated_here, OpAnswers}
use Rattle.protocol_laws.specs.Spelled.{IsSpelled}
use Rattle.protocol_laws.proofs.Laws.{operations_keep}
use Rattle.shard_ops.specs.declared.plan.Insert.{Insert}
use Rattle.shard_ops.specs.declared.plan.Write.{Write}
use Rattle.shard_ops.specs.declared.plan.Plan.{Plan}
use Rattle.shard_ops.specs.Effects.{performed_by, IsPerformedByPlan}
use Rattle.shard_ops.specs.Planned.{needed, insert_of, write_of, IsPlanOf}
use Rattle.txn_core.specs.State.{TxState}
use Rattle.txn_core.specs.Sound.{IsCovered}
use Rattle.txn_core.proofs.Doing.{covers}
use Rattle.txn_core.proofs.shard.ShardTx.grant.Goals as goal

-- what is done by a plan is what the operation does
as_planned : IsPerformedByPlan → (tx : TxId) (birth : Birth) (op : Op) (l : Local) (p : Plan) (vs : List TxId) → IsPlanOf op l.records p → vs ≡ violated_here l tx op
    → performed tx birth op l ≡ performed_by tx birth (needed p.needs) p.insert p.write vs l
as_planned law tx birth op l p vs is all =
    let by : List Need → Option Insert → Option Write → List TxId → Local = λ needs insert write preds. performed_by tx birth needs insert write preds l in
    law tx birth op l
    ∙ ap (λ ns. by ns (insert_of op l.records) (write_of op l.records) (violated_here l tx op)) (sym is.needs)
    ∙ ap (λ i. by (needed p.needs) i (write_of op l.records) (violated_here l tx op)) (sym is.insert)
    ∙ ap (λ w. by (needed p.needs) p.insert w (violated_here l tx op)) (sym is.write)
    ∙ ap (λ preds. by (needed p.needs) p.insert p.write preds) (sym all)

pub perform-requires-clause-covered : goal.perform-requires-clause-covered
perform-requires-clause-covered g c =
    let p = c.requires.plan in let op = c.args.op.now in let rs = c.args.self.now.local.records in let plan = c.args.plan in
    subst (λ w. IsCovered (needed plan.needs) plan.insert w) (sym p.write)
    (subst (λ i. IsCovered (needed plan.needs) i (write_of op rs)) (sym p.insert) (subst (λ ns. IsCovered ns (insert_of op rs) (write_of op rs)) (sym p.needs) (covers op rs)))

pub perform-requires-clause-spelled : goal.perform-requires-clause-spelled
perform-requires-clause-spelled g c =
    let l = c.args.self.now.local in let tx = c.args.tx in let birth = c.args.birth in let op = c.args.op.now in
    let spelled : IsSpelled l = subst (λ (v : TxState). IsSpelled v.local) c.self.view_is c.self.invariant.spelled in
    subst IsSpelled (as_planned c.performed_by_plan.ensures tx birth op l c.args.plan c.args.violated.now c.requires.plan c.requires.violated) (operations_keep tx birth op l c.requires.name c.fits.ensures spelled)

pub returns-in-Ok-perform-clause-ok : goal.returns-in-Ok-perform-clause-ok
returns-in-Ok-perform-clause-ok g c =
    let s = c.args.self.now in let t = c.perform.new.self in let landed = c.in-Ok-perform.ensures.ok in
    let planned = as_planned c.performed_by_plan.ensures c.args.tx c.args.birth c.args.op.now s.local c.args.plan c.args.violated.now c.requires.plan c.requires.violated in
    let there = ap (λ (v : TxState). v.local) landed in (
      ap (OpAnswers c.args.plan.answer) (planned ∙ sym there),
      ap (λ (v : TxState). v.local.epoch) landed,
      landed ∙ ap (λ (m : Local). record s { local = m; room = t.room; pairs_room = t.pairs_room }) (sym there),
      c.in-Ok.ensures,
    )

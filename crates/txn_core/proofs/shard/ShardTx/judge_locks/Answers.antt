-- What the locks say of an operation is what the protocol makes of it.
use Rattle.std.proofs.Common.{◌≡◌, true, refl, sym, ap, subst, ◌∙◌}
use Rattle.clv_base.specs.State.{Local}
use Rattle.clv_base.specs.Undo.{stage_of}
use Rattle.clv_base.specs.OneShard.{op_active}
use Rattle.txn_core.specs.declared.judging.Judged.{Judged}
use Rattle.txn_core.specs.State.{TxState}
use Rattle.txn_core.specs.Sound.{may_work}
use Rattle.txn_core.specs.Judged.{IsJudged, judged_by}
use Rattle.txn_core.proofs.Replies.{judged_is}
use Rattle.txn_core.proofs.shard.ShardTx.judge_locks.Goals as goal

pub returns-in-Ok : goal.returns-in-Ok
returns-in-Ok g c =
    let s = c.self.inside in let tx = c.args.tx in let birth = c.args.birth in let op = c.args.op.now in
    let l : Local = record { records = g.S.Store.records s.store; locks = g.L.Locks.rows s.locks; parts = s.parts.entries; pairs = s.deps.pairs; log = s.buffer.records; epoch = s.epoch } in
    let work = subst (λ (v : TxState). may_work (stage_of v.local tx) ≡ true) (sym c.self.view_is) c.requires.work in
    let inside = judged_is s.deps l tx birth op refl c.self.invariant.settled c.in-Ok.decided work c.in-Ok.ensures in
    let outside = subst (λ (v : TxState). IsJudged v.local tx birth op (op_active v.local tx birth op) (judged_by (stage_of v.local tx) c.in-Ok.decided)) c.self.view_is inside in
    let same = c.outcome_of.ensures ∙ ap (λ stage. judged_by stage c.in-Ok.decided) c.requires.stage in
    subst (λ (j : Judged). IsJudged c.args.self.now.local tx birth op (op_active c.args.self.now.local tx birth op) j) (sym same) outside

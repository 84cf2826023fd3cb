-- The dependencies know of the COMMITs of the log.
use Rattle.std.proofs.Common.{◌≡◌, ℕ, List, refl, subst}
use Rattle.std.specs.Result.{IfOk}
use Rattle.clv_base.specs.declared.names.TxId.{TxId}
use Rattle.clv_base.specs.Logs.{has_standing}
use Rattle.clv_base.specs.State.{Local}
use Rattle.clv_base.specs.Facts.{undecided_of}
use Rattle.clv_base.specs.OneShard.{closing}
use Rattle.cascade_undo.proofs.Laws.{undecided_by-log}
use Rattle.txn_core.specs.State.{TxState}
use Rattle.txn_core.specs.Closings.{planned}
use Rattle.txn_core.proofs.shard.ShardTx.plan_closing.Goals as goal

pub returns : goal.returns
returns g c =
    let s = c.self.inside in let tx = c.args.tx in let one = c.args.one_shard in let found = c.closing_plan.result in
    let l : Local = record { records = g.S.Store.records s.store; locks = g.L.Locks.rows s.locks; parts = s.parts.entries; pairs = s.deps.pairs; log = s.buffer.records; epoch = s.epoch } in
    subst (λ (v : TxState). IfOk found (λ plan. (home : ℕ) → planned tx home plan ≡ closing (has_standing (v.local).log tx) one tx home (undecided_of v.local tx))) c.self.view_is
    (subst (λ (us : List TxId). IfOk found (λ plan. (home : ℕ) → planned tx home plan ≡ closing (has_standing l.log tx) one tx home us)) (undecided_by-log s.deps l refl c.self.invariant.settled tx) c.closing_plan.ensures)

-- The dependencies know of the COMMITs of the log.
use Rattle.std.proofs.Common.{◌≡◌, ℕ, Bool, length, Option, refl, ap, subst, ◌∙◌}
use Rattle.clv_base.specs.declared.names.TxId.{TxId}
use Rattle.clv_base.specs.declared.parts.PartState.{PartState}
use Rattle.clv_base.specs.declared.parts.PartFacts.{PartFacts}
use Rattle.clv_base.specs.State.{Local}
use Rattle.clv_base.specs.Undo.{stage_of}
use Rattle.clv_base.specs.Facts.{facts_in, state_by, doom_by, is_restored_by}
use Rattle.cascade_undo.proofs.Laws.{undecided_by-log, due_of-log}
use Rattle.txn_core.specs.State.{TxState, stage_by}
use Rattle.txn_core.proofs.shard.ShardTx.facts.Goals as goal

same_facts : (a b : PartState) (n : ℕ) (u v r q : Bool) (d e : Option TxId) (p c k x y : Option ℕ) (i j : ℕ) (g h : Option ℕ) (w z : ℕ) → a ≡ b → u ≡ v → r ≡ q → d ≡ e → c ≡ k → x ≡ y → i ≡ j → g ≡ h → w ≡ z
    → ◌≡◌ {A = PartFacts}
    (record { state = a; now = n; updates = u; restored = r; doom = d; prepare = p; commit = c; rolled = x; undecided = i; due_lsn = g; durable = w })
    (record { state = b; now = n; updates = v; restored = q; doom = e; prepare = p; commit = k; rolled = y; undecided = j; due_lsn = h; durable = z })
same_facts a b n u v r q d e p c k x y i j g h w z e1 e2 e3 e4 e5 e6 e7 e8 e9 = cc

pub returns : goal.returns
returns g c =
    let s = c.self.inside in let tx = c.args.tx in
    let l : Local = record { records = g.S.Store.records s.store; locks = g.L.Locks.rows s.locks; parts = s.parts.entries; pairs = s.deps.pairs; log = s.buffer.records; epoch = s.epoch } in
    let stage : c.stage_of-stage.result ≡ stage_of l tx = c.stage_of-stage.ensures ∙ ap stage_by c.get-part.ensures in
    let found : PartFacts = record { state = c.state_of.result; now = s.epoch; updates = c.has_standing.result; restored = c.is_restored.result; doom = c.doom_of.result; prepare = c.args.prepare; commit = c.settled_at.result; rolled = c.rolled.result; undecided = c.undecided.result; due_lsn = c.due_lsn.result; durable = c.durable.result } in
    subst (λ (v : TxState). ◌≡◌ {A = PartFacts} found (record (facts_in v.local v.durable tx) { prepare = c.args.prepare })) c.self.view_is
    (same_facts _ _ s.epoch _ _ _ _ _ _ c.args.prepare _ _ _ _ _ _ _ _ _ _
    (c.state_of.ensures ∙ ap state_by stage) c.has_standing.ensures (c.is_restored.ensures ∙ ap is_restored_by c.get-part.ensures) (c.doom_of.ensures ∙ ap doom_by stage)
    (c.settled_at.ensures ∙ c.self.invariant.settled tx) c.rolled.ensures (c.undecided.ensures ∙ ap length (undecided_by-log s.deps l refl c.self.invariant.settled tx)) (c.due_lsn.ensures ∙ due_of-log s.deps l refl c.self.invariant.settled tx) c.durable.ensures.durable)

-- What the undo of the parts that are here may write fits into what is left.
use Rattle.std.proofs.Common.{◌≤◌, min, sym, ap, subst, ◌∙◌}
use Rattle.std.proofs.Math.Nat.{le-min}
use Rattle.clv_base.specs.declared.logs.LogRecord.{LogRecord}
use Rattle.clv_base.specs.State.{Local}
use Rattle.log_buffer.specs.Buffers.{Buffer}
use Rattle.cascade_undo.specs.Dependencies.{Dependencies}
use Rattle.txn_core.specs.State.{TxState}
use Rattle.txn_core.specs.Sound.{is_here, owed_by, IsKept}
use Rattle.txn_core.proofs.Totals.{still_sound}
use Rattle.txn_core.proofs.shard.ShardTx.trim_to.Goals as goal

pub invariant_of-self : goal.invariant_of-self
invariant_of-self g c =
    let s = c.self.inside in let left = min s.buffer.room c.args.room in
    let l : Local = record { records = g.S.Store.records s.store; locks = g.L.Locks.rows s.locks; parts = s.parts.entries; pairs = s.deps.pairs; log = s.buffer.records; epoch = s.epoch } in
    let kept : Buffer LogRecord → Dependencies → Type 0 = λ b d. IsKept d.commits (record l { pairs = d.pairs; log = b.records }) b.room in
    let wanted : owed_by (is_here l) l.log ≤ c.args.room = subst (λ (v : TxState). owed_by (is_here v.local) (v.local).log ≤ c.args.room) (sym c.self.view_is) c.requires in
    let base : IsKept s.deps.commits l left = record {
      settled = c.self.invariant.settled;
      sound = still_sound l s.buffer.room left c.self.invariant.sound (le-min c.self.invariant.sound.room wanted);
      ghosts = c.self.invariant.ghosts;
      few = c.self.invariant.few;
      spelled = c.self.invariant.spelled;
    } in
    subst (λ (b : Buffer LogRecord). kept b c.trim-2.new.self) (sym c.trim.ensures) (subst (λ (d : Dependencies). kept (record s.buffer { room = left }) d) (sym c.trim-2.ensures) base)

pub returns : goal.returns
returns g c =
    let s = c.self.inside in let room = c.args.room in let pairs = c.args.pairs in
    let l : Local = record { records = g.S.Store.records s.store; locks = g.L.Locks.rows s.locks; parts = s.parts.entries; pairs = s.deps.pairs; log = s.buffer.records; epoch = s.epoch } in
    let state : Buffer LogRecord → Dependencies → TxState = λ b d. record { shard = s.shard; local = record l { pairs = d.pairs; log = b.records }; durable = b.durable; taken = b.taken; room = b.room; pairs_room = d.room } in
    ap (λ (b : Buffer LogRecord). state b c.trim-2.new.self) c.trim.ensures
    ∙ ap (state (record s.buffer { room = min s.buffer.room room })) c.trim-2.ensures
    ∙ ap (λ (v : TxState). record v { room = min v.room room; pairs_room = min v.pairs_room pairs }) c.self.view_is

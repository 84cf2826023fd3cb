-- What is kept is enough for an undo of what is here.
use Rattle.std.proofs.Common.{◌≡◌, ◌+◌, ◌-◌, ◌≤◌, min, List, ap, sym, subst, ◌∙◌, arith}
use Rattle.std.proofs.Math.Nat.{le-min}
use Rattle.clv_base.specs.declared.names.TxId.{TxId}
use Rattle.clv_base.specs.declared.logs.LogRecord.{LogRecord}
use Rattle.clv_base.specs.State.{Local}
use Rattle.tx_table.specs.Parts.{parts_here}
use Rattle.log_buffer.specs.Buffers.{Buffer}
use Rattle.cascade_undo.specs.Dependencies.{Dependencies}
use Rattle.txn_core.specs.State.{TxState}
use Rattle.txn_core.specs.Sound.{is_here, owed_by, IsKept, trimmed}
use Rattle.txn_core.proofs.Counting.{in_set}
use Rattle.txn_core.proofs.Totals.{owed_here, kept_room, still_sound}
use Rattle.txn_core.proofs.shard.ShardTx.trim.Goals as goal

pub owed_to-undo-requires-clause-room : goal.owed_to-undo-requires-clause-room
owed_to-undo-requires-clause-room g c =
    let s = c.self.inside in
    let l : Local = record { records = g.S.Store.records s.store; locks = g.L.Locks.rows s.locks; parts = s.parts.entries; pairs = s.deps.pairs; log = s.buffer.records; epoch = s.epoch } in
    let told = ap (λ (ts : List TxId). owed_by (in_set ts) s.buffer.records) (c.deref.ensures.value ∙ c.in-Ok.ensures.txs ∙ ap (λ (v : TxState). parts_here (v.local).parts) (sym c.self.view_is)) ∙ owed_here l c.rising.ensures in
    omega (arith, told, c.self.invariant.sound.room)

pub overflow_sub-spare : goal.overflow_sub-spare
overflow_sub-spare g c =
    let s = c.self.inside in
    let l : Local = record { records = g.S.Store.records s.store; locks = g.L.Locks.rows s.locks; parts = s.parts.entries; pairs = s.deps.pairs; log = s.buffer.records; epoch = s.epoch } in
    let told = c.owed_to-undo.ensures ∙ ap (λ (ts : List TxId). owed_by (in_set ts) s.buffer.records) (c.deref.ensures.value ∙ c.in-Ok.ensures.txs ∙ ap (λ (v : TxState). parts_here (v.local).parts) (sym c.self.view_is)) ∙ owed_here l c.rising.ensures in
    omega (arith, told, c.self.invariant.sound.room, c.room-room.ensures)

pub overflow_add-undo : goal.overflow_add-undo
overflow_add-undo g c =
    let s = c.self.inside in
    let l : Local = record { records = g.S.Store.records s.store; locks = g.L.Locks.rows s.locks; parts = s.parts.entries; pairs = s.deps.pairs; log = s.buffer.records; epoch = s.epoch } in
    let told = c.owed_to-undo.ensures ∙ ap (λ (ts : List TxId). owed_by (in_set ts) s.buffer.records) (c.deref.ensures.value ∙ c.in-Ok.ensures.txs ∙ ap (λ (v : TxState). parts_here (v.local).parts) (sym c.self.view_is)) ∙ owed_here l c.rising.ensures in
    omega (arith, told, c.self.invariant.sound.room, c.room-room.ensures, c.room-room.type_inv, c.min.ensures)

pub invariant_of-self : goal.invariant_of-self
invariant_of-self g c =
    let s = c.self.inside in
    let l : Local = record { records = g.S.Store.records s.store; locks = g.L.Locks.rows s.locks; parts = s.parts.entries; pairs = s.deps.pairs; log = s.buffer.records; epoch = s.epoch } in
    let told = c.owed_to-undo.ensures ∙ ap (λ (ts : List TxId). owed_by (in_set ts) s.buffer.records) (c.deref.ensures.value ∙ c.in-Ok.ensures.txs ∙ ap (λ (v : TxState). parts_here (v.local).parts) (sym c.self.view_is)) ∙ owed_here l c.rising.ensures in
    let keep = c.owed_to-undo.result + c.min.result in
    let kept : Buffer LogRecord → Dependencies → Type 0 = λ b d. IsKept d.commits (record l { pairs = d.pairs; log = b.records }) b.room in
    let enough : owed_by (is_here l) l.log ≤ min s.buffer.room keep = le-min c.self.invariant.sound.room (omega (arith, told)) in
    let base : IsKept s.deps.commits l (min s.buffer.room keep) = record {
      settled = c.self.invariant.settled;
      sound = still_sound l s.buffer.room (min s.buffer.room keep) c.self.invariant.sound enough;
      ghosts = c.self.invariant.ghosts;
      few = c.self.invariant.few;
      spelled = c.self.invariant.spelled;
    } in
    subst (λ (b : Buffer LogRecord). kept b c.trim-2.new.self) (sym c.trim.ensures) (subst (λ (d : Dependencies). kept (record s.buffer { room = min s.buffer.room keep }) d) (sym c.trim-2.ensures) base)

pub returns-clause-ok : goal.returns-clause-ok
returns-clause-ok g c =
    let s = c.self.inside in
    let l : Local = record { records = g.S.Store.records s.store; locks = g.L.Locks.rows s.locks; parts = s.parts.entries; pairs = s.deps.pairs; log = s.buffer.records; epoch = s.epoch } in
    let told = c.owed_to-undo.ensures ∙ ap (λ (ts : List TxId). owed_by (in_set ts) s.buffer.records) (c.deref.ensures.value ∙ c.in-Ok.ensures.txs ∙ ap (λ (v : TxState). parts_here (v.local).parts) (sym c.self.view_is)) ∙ owed_here l c.rising.ensures in
    let undo = c.owed_to-undo.result in let count = c.args.count in
    let left : min s.buffer.room (undo + c.min.result) ≡ min s.buffer.room (count + owed_by (is_here l) l.log) =
    ap (λ n. min s.buffer.room (undo + n)) (c.min.ensures ∙ ap (λ n. min (n - undo) count) c.room-room.ensures) ∙ kept_room s.buffer.room undo count (omega (arith, told, c.self.invariant.sound.room)) ∙ ap (λ n. min s.buffer.room (count + n)) told in
    let state : Buffer LogRecord → Dependencies → TxState = λ b d. record { shard = s.shard; local = record l { pairs = d.pairs; log = b.records }; durable = b.durable; taken = b.taken; room = b.room; pairs_room = d.room } in
    ap (λ (b : Buffer LogRecord). state b c.trim-2.new.self) c.trim.ensures
    ∙ ap (state (record s.buffer { room = min s.buffer.room (undo + c.min.result) })) c.trim-2.ensures
    ∙ ap (λ n. state (record s.buffer { room = n }) (record s.deps { room = min s.deps.room count })) left
    ∙ ap (trimmed count) c.self.view_is

-- The log has a write more, so what is settled stays so; what was done is locked, so all can still be taken away; and its undo has room of its own.
use Rattle.std.proofs.Common.{◌≡◌, ◌+◌, ◌≤◌, true, length, sym, ap, subst, ◌∙◌, arith, refl}
use Rattle.clv_base.specs.Orders.{tx_get}
use Rattle.clv_base.specs.Logs.{commit_lsn, has_standing}
use Rattle.clv_base.specs.State.{Local}
use Rattle.clv_base.specs.Undo.{stage_of}
use Rattle.clv_base.specs.OneShard.{add_pairs, undecided_with}
use Rattle.protocol_laws.specs.Spelled.{IsSpelled}
use Rattle.shard_ops.specs.Planned.{needed}
use Rattle.shard_ops.specs.Effects.{performed_by, locks_after, records_after, log_after, record_count, CanWrite}
use Rattle.clv_base.specs.declared.logs.LogRecord.{LogRecord}
use Rattle.log_buffer.specs.Buffers.{Buffer}
use Rattle.txn_core.proofs.Roomier.{kept_still, same_still, spare_still}
use Rattle.txn_core.specs.State.{TxState, IsSameBut}
use Rattle.txn_core.specs.Sound.{may_work, owed_more, KeepsSpare}
use Rattle.txn_core.proofs.Settled.{commit_lsn-log_after}
use Rattle.txn_core.proofs.Undoing.{sound_more, local_same, spare_like, state_same}
use Rattle.txn_core.proofs.Doing.{sound_performed, spare_performed, back_performed, known_from, known_alike, can_write}
use Rattle.txn_core.proofs.Returning.{back_like}
use Rattle.txn_core.proofs.Locked.{granted_ghosts_are_locked, ghosts_same}
use Rattle.txn_core.proofs.Crowds.{few_same, few_written, few_add}
use Rattle.txn_core.proofs.Spelling.{spelled_same}
use Rattle.txn_core.proofs.shard.ShardTx.perform.Goals as goal

pub enter_part-requires : goal.enter_part-requires
enter_part-requires g c =
    let s = c.self.inside in let tx = c.args.tx in
    let l : Local = record { records = g.S.Store.records s.store; locks = g.L.Locks.rows s.locks; parts = s.parts.entries; pairs = s.deps.pairs; log = s.buffer.records; epoch = s.epoch } in
    c.is_some.ensures ∙ known_alike l tx c.args.stage (subst (λ (v : TxState). c.args.stage ≡ stage_of v.local tx) (sym c.self.view_is) c.requires.stage)

pub write_down-requires-clause-store : goal.write_down-requires-clause-store
write_down-requires-clause-store g c =
    let write = c.args.plan.now.write in
    let can = subst (λ (v : TxState). CanWrite write 1 (v.local).records) (sym c.self.view_is) c.requires.write in
    can_write write _ _ c.in-Ok-reserve_rest.ensures.store (subst (CanWrite write 1) (sym c.reserve_rest.ensures.records) can)

pub invariant_of-self-2 : goal.invariant_of-self-2
invariant_of-self-2 g c =
    let s = c.self.inside in let tx = c.args.tx in let birth = c.args.birth in let plan = c.args.plan.now in
    let l : Local = record { records = g.S.Store.records s.store; locks = g.L.Locks.rows s.locks; parts = s.parts.entries; pairs = s.deps.pairs; log = s.buffer.records; epoch = s.epoch } in
    let write = plan.write in let needs = needed plan.needs in let left = c.write_down.new.buffer.room in
    let work : may_work (stage_of l tx) ≡ true = subst (λ (v : TxState). may_work (stage_of v.local tx) ≡ true) (sym c.self.view_is) c.requires.work in
    let stage = subst (λ (v : TxState). c.args.stage ≡ stage_of v.local tx) (sym c.self.view_is) c.requires.stage in
    let known = known_from l tx c.args.stage stage work (sym c.was_before.ensures ∙ c.if-was_before.false) in
    let reserved : c.reserve_log.new.buffer.room ≡ s.buffer.room + record_count write + owed_more (has_standing s.buffer.records tx) write = c.in-Ok-reserve_log.ensures.ok in
    let after = sound_performed tx birth needs plan.insert write c.args.violated.now l s.buffer.room left c.self.invariant.sound work known c.requires.covered (omega (arith, reserved, c.write_down.ensures.room)) in
    let records = c.write_down.ensures.records ∙ ap (records_after write) c.reserve_rest.ensures.records in
    let locks = c.take_locks.ensures ∙ ap (λ n. locks_after tx birth n plan.insert (g.L.Locks.rows c.reserve_locks.new.locks)) c.as_slice-2.ensures ∙ ap (locks_after tx birth needs plan.insert) c.reserve_locks.ensures.rows in
    let pairs = c.follow.ensures.pairs ∙ ap (add_pairs tx c.args.violated.now) c.reserve_rest.ensures.pairs in
    let log = c.write_down.ensures.log ∙ ap (λ b. log_after tx write b.records) c.reserve_log.ensures.same in
    let locked = granted_ghosts_are_locked tx birth needs plan.insert l.locks write l.records c.requires.covered c.self.invariant.ghosts in
    let own : length (undecided_with l tx c.args.violated.now) ≤ 1024 = subst (λ (v : TxState). length (undecided_with v.local tx c.args.violated.now) ≤ 1024) (sym c.self.view_is) c.requires.few in
    let done = local_same _ _ _ _ _ (performed_by tx birth needs plan.insert write c.args.violated.now l) records locks c.in-Ok-enter_part.ensures.ok pairs log in
    record {
      settled = λ t.
          ap (tx_get t) c.follow.ensures.commits ∙ c.reserve_rest.ensures.commits t ∙ c.self.invariant.settled t
          ∙ sym (ap (λ m. commit_lsn m t) log ∙ commit_lsn-log_after t tx write l.log);
      sound = sound_more (performed_by tx birth needs plan.insert write c.args.violated.now l) _ left left done (omega arith) after;
      ghosts = ghosts_same _ _ _ _ locks records locked;
      few =
          few_same (log_after tx write l.log) c.write_down.new.buffer.records (add_pairs tx c.args.violated.now l.pairs) _ log pairs
          (few_written tx write l.log (add_pairs tx c.args.violated.now l.pairs) (few_add tx c.args.violated.now l.log l.pairs c.self.invariant.few own));
      spelled =
          spelled_same _ (performed_by tx birth needs plan.insert write c.args.violated.now l) done
          (subst (λ (v : TxState). IsSpelled (performed_by tx birth needs plan.insert write c.args.violated.now v.local)) (sym c.self.view_is) c.requires.spelled);
    }

pub returns-clause-room : goal.returns-clause-room
returns-clause-room g c =
    let s = c.self.inside in let tx = c.args.tx in let birth = c.args.birth in let plan = c.args.plan.now in
    let l : Local = record { records = g.S.Store.records s.store; locks = g.L.Locks.rows s.locks; parts = s.parts.entries; pairs = s.deps.pairs; log = s.buffer.records; epoch = s.epoch } in
    let write = plan.write in let needs = needed plan.needs in let violated = c.args.violated.now in let now = c.write_down.new.buffer in
    let work : may_work (stage_of l tx) ≡ true = subst (λ (v : TxState). may_work (stage_of v.local tx) ≡ true) (sym c.self.view_is) c.requires.work in
    let stage = subst (λ (v : TxState). c.args.stage ≡ stage_of v.local tx) (sym c.self.view_is) c.requires.stage in
    let known = known_from l tx c.args.stage stage work (sym c.was_before.ensures ∙ c.if-was_before.false) in
    let reserved : c.reserve_log.new.buffer.room ≡ s.buffer.room + record_count write + owed_more (has_standing s.buffer.records tx) write = c.in-Ok-reserve_log.ensures.ok in
    let spare = spare_performed tx birth needs plan.insert write violated l s.buffer.room now.room known (omega (arith, reserved, c.write_down.ensures.room)) in
    let log = c.write_down.ensures.log ∙ ap (λ b. log_after tx write b.records) c.reserve_log.ensures.same in
    let view : TxState = record { shard = s.shard; local = l; durable = s.buffer.durable; taken = s.buffer.taken; room = s.buffer.room; pairs_room = s.deps.room } in
    let m : Local = record { records = g.S.Store.records c.write_down.new.store; locks = g.L.Locks.rows c.take_locks.new.locks; parts = c.enter_part.new.parts.entries; pairs = c.follow.new.self.pairs; log = now.records; epoch = s.epoch } in
    let left : TxState = record { shard = s.shard; local = m; durable = now.durable; taken = now.taken; room = now.room; pairs_room = c.follow.new.self.room } in
    let inside : KeepsSpare view left = spare_like view left (performed_by tx birth needs plan.insert write violated l) c.in-Ok-enter_part.ensures.ok log spare in
    subst (λ (v : TxState). KeepsSpare v left) c.self.view_is inside

pub returns-clause-given_back : goal.returns-clause-given_back
returns-clause-given_back g c =
    let s = c.self.inside in let tx = c.args.tx in let birth = c.args.birth in let plan = c.args.plan.now in
    let l : Local = record { records = g.S.Store.records s.store; locks = g.L.Locks.rows s.locks; parts = s.parts.entries; pairs = s.deps.pairs; log = s.buffer.records; epoch = s.epoch } in
    let write = plan.write in let needs = needed plan.needs in let violated = c.args.violated.now in let now = c.write_down.new.buffer in
    let work : may_work (stage_of l tx) ≡ true = subst (λ (v : TxState). may_work (stage_of v.local tx) ≡ true) (sym c.self.view_is) c.requires.work in
    let reserved : c.reserve_log.new.buffer.room ≡ s.buffer.room + record_count write + owed_more (has_standing s.buffer.records tx) write = c.in-Ok-reserve_log.ensures.ok in
    let back = back_performed tx birth needs plan.insert write violated l s.buffer.room now.room work (omega (arith, reserved, c.write_down.ensures.room)) in
    let log = c.write_down.ensures.log ∙ ap (λ b. log_after tx write b.records) c.reserve_log.ensures.same in
    let view : TxState = record { shard = s.shard; local = l; durable = s.buffer.durable; taken = s.buffer.taken; room = s.buffer.room; pairs_room = s.deps.room } in
    let m : Local = record { records = g.S.Store.records c.write_down.new.store; locks = g.L.Locks.rows c.take_locks.new.locks; parts = c.enter_part.new.parts.entries; pairs = c.follow.new.self.pairs; log = now.records; epoch = s.epoch } in
    let left : TxState = record { shard = s.shard; local = m; durable = now.durable; taken = now.taken; room = now.room; pairs_room = c.follow.new.self.room } in
    let inside : KeepsSpare left view = back_like view left (performed_by tx birth needs plan.insert write violated l) c.in-Ok-enter_part.ensures.ok log back in
    subst (λ (v : TxState). KeepsSpare left v) c.self.view_is inside

pub returns-clause-ok : goal.returns-clause-ok
returns-clause-ok g c =
    let s = c.self.inside in let tx = c.args.tx in let birth = c.args.birth in let plan = c.args.plan.now in let violated = c.args.violated.now in
    let l : Local = record { records = g.S.Store.records s.store; locks = g.L.Locks.rows s.locks; parts = s.parts.entries; pairs = s.deps.pairs; log = s.buffer.records; epoch = s.epoch } in
    let write = plan.write in let needs = needed plan.needs in let now = c.write_down.new.buffer in let same = c.reserve_log.ensures.same in
    let records = c.write_down.ensures.records ∙ ap (records_after write) c.reserve_rest.ensures.records in
    let locks = c.take_locks.ensures ∙ ap (λ n. locks_after tx birth n plan.insert (g.L.Locks.rows c.reserve_locks.new.locks)) c.as_slice-2.ensures ∙ ap (locks_after tx birth needs plan.insert) c.reserve_locks.ensures.rows in
    let pairs = c.follow.ensures.pairs ∙ ap (add_pairs tx violated) c.reserve_rest.ensures.pairs in
    let log = c.write_down.ensures.log ∙ ap (λ b. log_after tx write b.records) same in
    let m : Local = record { records = g.S.Store.records c.write_down.new.store; locks = g.L.Locks.rows c.take_locks.new.locks; parts = c.enter_part.new.parts.entries; pairs = c.follow.new.self.pairs; log = now.records; epoch = s.epoch } in
    let left : TxState = record { shard = s.shard; local = m; durable = now.durable; taken = now.taken; room = now.room; pairs_room = c.follow.new.self.room } in
    let done : m ≡ performed_by tx birth needs plan.insert write violated l = local_same _ _ _ _ _ (performed_by tx birth needs plan.insert write violated l) records locks c.in-Ok-enter_part.ensures.ok pairs log in
    subst (λ (v : TxState). IsSameBut v (performed_by tx birth needs plan.insert write violated v.local) left) c.self.view_is
    (state_same s.shard m (performed_by tx birth needs plan.insert write violated l) now.durable s.buffer.durable now.taken s.buffer.taken now.room c.follow.new.self.room done
    (c.write_down.ensures.fronts.0 ∙ ap (λ (b : Buffer LogRecord). b.durable) same) (c.write_down.ensures.fronts.1 ∙ ap (λ (b : Buffer LogRecord). b.taken) same))

-- where there is no memory only room was made
pub invariant_of-self : goal.invariant_of-self
invariant_of-self g c =
    let s = c.self.inside in
    let l : Local = record { records = g.S.Store.records s.store; locks = g.L.Locks.rows s.locks; parts = s.parts.entries; pairs = s.deps.pairs; log = s.buffer.records; epoch = s.epoch } in
    let m : Local = record { records = g.S.Store.records s.store; locks = g.L.Locks.rows c.reserve_locks.new.locks; parts = s.parts.entries; pairs = s.deps.pairs; log = s.buffer.records; epoch = s.epoch } in
    let is : m ≡ l = local_same _ _ _ _ _ l refl c.reserve_locks.ensures.rows refl refl refl in
    kept_still l m s.deps.commits s.deps.commits s.buffer.room s.buffer.room is (λ t. refl) (omega arith) c.self.invariant

pub returns-in-Err-clause-err : goal.returns-in-Err-clause-err
returns-in-Err-clause-err g c =
    let s = c.self.inside in
    let l : Local = record { records = g.S.Store.records s.store; locks = g.L.Locks.rows s.locks; parts = s.parts.entries; pairs = s.deps.pairs; log = s.buffer.records; epoch = s.epoch } in
    let m : Local = record { records = g.S.Store.records s.store; locks = g.L.Locks.rows c.reserve_locks.new.locks; parts = s.parts.entries; pairs = s.deps.pairs; log = s.buffer.records; epoch = s.epoch } in
    let is : m ≡ l = local_same _ _ _ _ _ l refl c.reserve_locks.ensures.rows refl refl refl in
    same_still s.shard l m s.buffer.durable s.buffer.taken s.buffer.room s.buffer.room s.deps.room s.deps.room c.args.self.now c.self.view_is is s.buffer.durable s.buffer.taken refl refl

pub returns-in-Err-clause-room : goal.returns-in-Err-clause-room
returns-in-Err-clause-room g c =
    let s = c.self.inside in
    let l : Local = record { records = g.S.Store.records s.store; locks = g.L.Locks.rows s.locks; parts = s.parts.entries; pairs = s.deps.pairs; log = s.buffer.records; epoch = s.epoch } in
    let m : Local = record { records = g.S.Store.records s.store; locks = g.L.Locks.rows c.reserve_locks.new.locks; parts = s.parts.entries; pairs = s.deps.pairs; log = s.buffer.records; epoch = s.epoch } in
    let is : m ≡ l = local_same _ _ _ _ _ l refl c.reserve_locks.ensures.rows refl refl refl in
    spare_still s.shard l m s.buffer.durable s.buffer.taken s.buffer.room s.buffer.room s.deps.room s.deps.room c.args.self.now c.self.view_is is s.buffer.durable s.buffer.taken (omega arith)

pub invariant_of-self-in-Err-reserve_rest : goal.invariant_of-self-in-Err-reserve_rest
invariant_of-self-in-Err-reserve_rest g c =
    let s = c.self.inside in
    let l : Local = record { records = g.S.Store.records s.store; locks = g.L.Locks.rows s.locks; parts = s.parts.entries; pairs = s.deps.pairs; log = s.buffer.records; epoch = s.epoch } in
    let m : Local = record { records = g.S.Store.records c.reserve_rest.new.store; locks = g.L.Locks.rows c.reserve_locks.new.locks; parts = s.parts.entries; pairs = c.reserve_rest.new.deps.pairs; log = s.buffer.records; epoch = s.epoch } in
    let is : m ≡ l = local_same _ _ _ _ _ l c.reserve_rest.ensures.records c.reserve_locks.ensures.rows refl c.reserve_rest.ensures.pairs refl in
    kept_still l m s.deps.commits c.reserve_rest.new.deps.commits s.buffer.room s.buffer.room is c.reserve_rest.ensures.commits (omega arith) c.self.invariant

pub returns-in-Err-reserve_rest-clause-err : goal.returns-in-Err-reserve_rest-clause-err
returns-in-Err-reserve_rest-clause-err g c =
    let s = c.self.inside in
    let l : Local = record { records = g.S.Store.records s.store; locks = g.L.Locks.rows s.locks; parts = s.parts.entries; pairs = s.deps.pairs; log = s.buffer.records; epoch = s.epoch } in
    let m : Local = record { records = g.S.Store.records c.reserve_rest.new.store; locks = g.L.Locks.rows c.reserve_locks.new.locks; parts = s.parts.entries; pairs = c.reserve_rest.new.deps.pairs; log = s.buffer.records; epoch = s.epoch } in
    let is : m ≡ l = local_same _ _ _ _ _ l c.reserve_rest.ensures.records c.reserve_locks.ensures.rows refl c.reserve_rest.ensures.pairs refl in
    same_still s.shard l m s.buffer.durable s.buffer.taken s.buffer.room s.buffer.room s.deps.room c.reserve_rest.new.deps.room c.args.self.now c.self.view_is is s.buffer.durable s.buffer.taken refl refl

pub returns-in-Err-reserve_rest-clause-room : goal.returns-in-Err-reserve_rest-clause-room
returns-in-Err-reserve_rest-clause-room g c =
    let s = c.self.inside in
    let l : Local = record { records = g.S.Store.records s.store; locks = g.L.Locks.rows s.locks; parts = s.parts.entries; pairs = s.deps.pairs; log = s.buffer.records; epoch = s.epoch } in
    let m : Local = record { records = g.S.Store.records c.reserve_rest.new.store; locks = g.L.Locks.rows c.reserve_locks.new.locks; parts = s.parts.entries; pairs = c.reserve_rest.new.deps.pairs; log = s.buffer.records; epoch = s.epoch } in
    let is : m ≡ l = local_same _ _ _ _ _ l c.reserve_rest.ensures.records c.reserve_locks.ensures.rows refl c.reserve_rest.ensures.pairs refl in
    spare_still s.shard l m s.buffer.durable s.buffer.taken s.buffer.room s.buffer.room s.deps.room c.reserve_rest.new.deps.room c.args.self.now c.self.view_is is s.buffer.durable s.buffer.taken (omega arith)

pub invariant_of-self-in-Err-reserve_log : goal.invariant_of-self-in-Err-reserve_log
invariant_of-self-in-Err-reserve_log g c =
    let s = c.self.inside in
    let l : Local = record { records = g.S.Store.records s.store; locks = g.L.Locks.rows s.locks; parts = s.parts.entries; pairs = s.deps.pairs; log = s.buffer.records; epoch = s.epoch } in
    let m : Local = record { records = g.S.Store.records c.reserve_rest.new.store; locks = g.L.Locks.rows c.reserve_locks.new.locks; parts = s.parts.entries; pairs = c.reserve_rest.new.deps.pairs; log = c.reserve_log.new.buffer.records; epoch = s.epoch } in
    let is : m ≡ l = local_same _ _ _ _ _ l c.reserve_rest.ensures.records c.reserve_locks.ensures.rows refl c.reserve_rest.ensures.pairs (ap (λ (b : Buffer LogRecord). b.records) c.reserve_log.ensures.same) in
    let kept = ap (λ (b : Buffer LogRecord). b.room) c.in-Err-reserve_log.ensures.refused in
    kept_still l m s.deps.commits c.reserve_rest.new.deps.commits s.buffer.room c.reserve_log.new.buffer.room is c.reserve_rest.ensures.commits (omega (arith, kept)) c.self.invariant

pub returns-in-Err-reserve_log-clause-err : goal.returns-in-Err-reserve_log-clause-err
returns-in-Err-reserve_log-clause-err g c =
    let s = c.self.inside in
    let l : Local = record { records = g.S.Store.records s.store; locks = g.L.Locks.rows s.locks; parts = s.parts.entries; pairs = s.deps.pairs; log = s.buffer.records; epoch = s.epoch } in
    let m : Local = record { records = g.S.Store.records c.reserve_rest.new.store; locks = g.L.Locks.rows c.reserve_locks.new.locks; parts = s.parts.entries; pairs = c.reserve_rest.new.deps.pairs; log = c.reserve_log.new.buffer.records; epoch = s.epoch } in
    let is : m ≡ l = local_same _ _ _ _ _ l c.reserve_rest.ensures.records c.reserve_locks.ensures.rows refl c.reserve_rest.ensures.pairs (ap (λ (b : Buffer LogRecord). b.records) c.reserve_log.ensures.same) in
    let kept = ap (λ (b : Buffer LogRecord). b.room) c.in-Err-reserve_log.ensures.refused in
    same_still s.shard l m s.buffer.durable s.buffer.taken s.buffer.room c.reserve_log.new.buffer.room s.deps.room c.reserve_rest.new.deps.room c.args.self.now c.self.view_is is c.reserve_log.new.buffer.durable c.reserve_log.new.buffer.taken (ap (λ (b : Buffer LogRecord). b.durable) c.reserve_log.ensures.same) (ap (λ (b : Buffer LogRecord). b.taken) c.reserve_log.ensures.same)

pub returns-in-Err-reserve_log-clause-room : goal.returns-in-Err-reserve_log-clause-room
returns-in-Err-reserve_log-clause-room g c =
    let s = c.self.inside in
    let l : Local = record { records = g.S.Store.records s.store; locks = g.L.Locks.rows s.locks; parts = s.parts.entries; pairs = s.deps.pairs; log = s.buffer.records; epoch = s.epoch } in
    let m : Local = record { records = g.S.Store.records c.reserve_rest.new.store; locks = g.L.Locks.rows c.reserve_locks.new.locks; parts = s.parts.entries; pairs = c.reserve_rest.new.deps.pairs; log = c.reserve_log.new.buffer.records; epoch = s.epoch } in
    let is : m ≡ l = local_same _ _ _ _ _ l c.reserve_rest.ensures.records c.reserve_locks.ensures.rows refl c.reserve_rest.ensures.pairs (ap (λ (b : Buffer LogRecord). b.records) c.reserve_log.ensures.same) in
    let kept = ap (λ (b : Buffer LogRecord). b.room) c.in-Err-reserve_log.ensures.refused in
    spare_still s.shard l m s.buffer.durable s.buffer.taken s.buffer.room c.reserve_log.new.buffer.room s.deps.room c.reserve_rest.new.deps.room c.args.self.now c.self.view_is is c.reserve_log.new.buffer.durable c.reserve_log.new.buffer.taken (omega (arith, kept))

-- What the doomed that are here did can be taken away; the records of an undo hold no COMMIT, and the others keep what they have.
use Rattle.std.proofs.Common.{◌≡◌, ◌+◌, ◌≤◌, List, length, sym, ap, subst, ◌∙◌, refl, arith, Some}
use Rattle.std.proofs.Math.Nat.{min-eq_right}
use Rattle.clv_base.specs.declared.names.TxId.{TxId}
use Rattle.clv_base.specs.declared.logs.LogRecord.{LogRecord}
use Rattle.clv_base.specs.Orders.{tx_get}
use Rattle.clv_base.specs.Logs.{standing, commit_lsn}
use Rattle.clv_base.specs.Locks.{Locks, release}
use Rattle.clv_base.specs.Needs.{without_ghosts}
use Rattle.clv_base.specs.OneShard.{purge}
use Rattle.clv_base.specs.State.{Local}
use Rattle.clv_base.specs.Undo.{doomed_here, take_away, roll_back, is_of, records_without, aborts_of, clrs_of, gone_in, pairs_without}
use Rattle.cascade_undo.specs.Writes.{writes_of, HaveRecords}
use Rattle.log_buffer.specs.Buffers.{Buffer}
use Rattle.txn_core.specs.State.{TxState}
use Rattle.txn_core.specs.Sound.{is_here, owed_by, KeepsSpare}
use Rattle.txn_core.proofs.Settled.{commit_lsn-undone}
use Rattle.txn_core.proofs.Undoing.{undoable_here, each_doomed_here, doomed_here_rise, marked_is_doomed, sound_away, spare_away, spare_like, sound_more, local_same, state_same}
use Rattle.shard_ops.proofs.Laws.{purged_are_locked}
use Rattle.txn_core.proofs.Locked.{undone_ghosts_are_locked, sound_purged, ghosts_same}
use Rattle.txn_core.proofs.Counting.{in_set}
use Rattle.txn_core.proofs.Owing.{count_owed_fewer, undo_at_most}
use Rattle.txn_core.proofs.Returning.{Kept, spare_back, back_like}
use Rattle.txn_core.proofs.Crowds.{few_same, few_undone, few_without}
use Rattle.txn_core.proofs.Spelling.{spelled_same, spelled_aborted}
use Rattle.txn_core.proofs.shard.ShardTx.abort.Goals as goal
use Rattle.std.specs.Prelude.{◌++◌}

pub room_beyond-kept-requires-clause-room : goal.room_beyond-kept-requires-clause-room
room_beyond-kept-requires-clause-room g c =
    let s = c.self.inside in let tx = c.args.tx in let sound = c.self.invariant.sound in
    let l : Local = record { records = g.S.Store.records s.store; locks = g.L.Locks.rows s.locks; parts = s.parts.entries; pairs = s.deps.pairs; log = s.buffer.records; epoch = s.epoch } in
    let set = doomed_here l tx in let marked : c.mark_doomed.new.deps.marked ≡ set = c.mark_doomed.ensures.marked ∙ marked_is_doomed l s.buffer.room sound tx in
    let fits = count_owed_fewer (in_set set) (is_here l) l.log (each_doomed_here l tx) in
    subst (λ (m : List TxId). owed_by (in_set m) l.log ≤ s.buffer.room) (sym (c.marks.ensures.marked ∙ marked)) (omega (arith, fits, sound.room))

pub roll_back-requires : goal.roll_back-requires
roll_back-requires g c =
    let s = c.self.inside in let tx = c.args.tx in
    let l : Local = record { records = g.S.Store.records s.store; locks = g.L.Locks.rows s.locks; parts = s.parts.entries; pairs = s.deps.pairs; log = s.buffer.records; epoch = s.epoch } in
    let view : TxState = record { shard = s.shard; local = l; durable = s.buffer.durable; taken = s.buffer.taken; room = s.buffer.room; pairs_room = s.deps.room } in
    let can = undoable_here l s.buffer.room c.self.invariant.sound tx in let marked : c.mark_doomed.new.deps.marked ≡ doomed_here l tx = c.mark_doomed.ensures.marked ∙ marked_is_doomed l s.buffer.room c.self.invariant.sound tx in
    record {
      there = subst (λ (set : List TxId). HaveRecords set (standing l.log) l.records) (sym marked) can.0;
      room = subst (λ (set : List TxId). length (aborts_of l.log set) + length (writes_of set (standing l.log)) ≤ s.buffer.room) (sym marked) can.1;
    }

pub release_all-requires : goal.release_all-requires
release_all-requires g c =
    let s = c.self.inside in let tx = c.args.tx in let sound = c.self.invariant.sound in
    let l : Local = record { records = g.S.Store.records s.store; locks = g.L.Locks.rows s.locks; parts = s.parts.entries; pairs = s.deps.pairs; log = s.buffer.records; epoch = s.epoch } in
    let marked : c.mark_doomed.new.deps.marked ≡ doomed_here l tx = c.mark_doomed.ensures.marked ∙ marked_is_doomed l s.buffer.room c.self.invariant.sound tx in
    let undone = c.roll_back.ensures.records ∙ ap (λ (m : List TxId). records_without (is_of m) (standing l.log) l.records) marked in
    ghosts_same l.locks l.locks (records_without (is_of (doomed_here l tx)) (standing l.log) l.records) (g.S.Store.records c.roll_back.new.store) refl undone (undone_ghosts_are_locked (doomed_here l tx) l s.buffer.room sound (each_doomed_here l tx) c.self.invariant.ghosts)

pub invariant_of-self : goal.invariant_of-self
invariant_of-self g c =
    let s = c.self.inside in let tx = c.args.tx in
    let l : Local = record { records = g.S.Store.records s.store; locks = g.L.Locks.rows s.locks; parts = s.parts.entries; pairs = s.deps.pairs; log = s.buffer.records; epoch = s.epoch } in
    let set = doomed_here l tx in let marked : c.mark_doomed.new.deps.marked ≡ doomed_here l tx = c.mark_doomed.ensures.marked ∙ marked_is_doomed l s.buffer.room c.self.invariant.sound tx in
    let sound = c.self.invariant.sound in
    let most = undo_at_most set l.log (doomed_here_rise l tx) in
    let spent = subst (λ (m : List TxId). s.buffer.room ≤ c.roll_back.new.buffer.room + (length (aborts_of l.log m) + length (writes_of m (standing l.log)))) marked c.roll_back.ensures.room in
    let kept = c.room_beyond-kept.result in
    let told = subst (λ (m : List TxId). kept + owed_by (in_set m) l.log ≡ s.buffer.room) (c.marks.ensures.marked ∙ marked) c.room_beyond-kept.ensures in
    let back : c.trim.new.self ≡ record c.roll_back.new.buffer { room = kept } = c.trim.ensures ∙ ap (λ n. record c.roll_back.new.buffer { room = n }) (min-eq_right (omega (arith, told, most, spent))) in
    let left = sound_away set tx l s.buffer.room kept sound (each_doomed_here l tx) (omega (arith, told)) in
    let undone = c.roll_back.ensures.records ∙ ap (λ (m : List TxId). records_without (is_of m) (standing l.log) l.records) marked in
    let locks = c.release_all.ensures.rows ∙ ap (λ (m : List TxId). release m l.locks) (c.marks-2.ensures.marked ∙ marked) in
    let records =
    c.release_all.ensures.records ∙ ap (λ (k : Locks). without_ghosts k (g.S.Store.records c.roll_back.new.store)) locks
    ∙ ap (without_ghosts (release (doomed_here l tx) l.locks)) undone in
    let parts = c.end_parts.ensures ∙ ap (λ (m : List TxId). gone_in m (Some tx) l.parts) (c.marks-3.ensures.marked ∙ marked) in
    let pairs = c.forget_marked.ensures.pairs ∙ ap (pairs_without c.mark_doomed.new.deps.marked) c.mark_doomed.ensures.pairs ∙ ap (λ (m : List TxId). pairs_without m l.pairs) marked in
    let log = c.roll_back.ensures.log ∙ ap (λ (m : List TxId). l.log ++ aborts_of l.log m ++ clrs_of m (standing l.log)) marked in
    let m : Local = record { records = g.S.Store.records c.release_all.new.store; locks = g.L.Locks.rows c.release_all.new.locks; parts = c.end_parts.new.parts.entries; pairs = c.forget_marked.new.self.pairs; log = c.roll_back.new.buffer.records; epoch = s.epoch } in
    let away = local_same _ _ _ _ _ (purge (take_away set tx l)) records locks parts pairs log in
    let base : Kept c.forget_marked.new.self.commits m (record c.roll_back.new.buffer { room = kept }) =
    record {
      settled = λ t.
          ap (tx_get t) (c.forget_marked.ensures.commits ∙ c.mark_doomed.ensures.commits) ∙ c.self.invariant.settled t
          ∙ sym (ap (λ m. commit_lsn m t) c.roll_back.ensures.log ∙ commit_lsn-undone t c.mark_doomed.new.deps.marked (standing l.log) l.log);
      sound = sound_more (purge (take_away set tx l)) _ kept kept away (omega arith)
          (sound_purged (take_away set tx l) kept left);
      ghosts = ghosts_same _ _ _ _ locks records (purged_are_locked (release set l.locks) (records_without (is_of set) (standing l.log) l.records));
      few = few_same (take_away set tx l).log c.roll_back.new.buffer.records (pairs_without set l.pairs) _ log pairs
          (few_undone l.log (aborts_of l.log set) (clrs_of set (standing l.log)) (pairs_without set l.pairs) (few_without set l.log l.pairs c.self.invariant.few));
      spelled = spelled_same _ (purge (roll_back tx l)) away (spelled_aborted tx l (omega (arith, c.end-end.ensures.end, c.end-end.type_inv)) c.self.invariant.spelled);
    }
    in subst (λ (b : Buffer LogRecord). Kept c.forget_marked.new.self.commits m b) (sym back) base

pub returns-clause-without : goal.returns-clause-without
returns-clause-without g c =
    let s = c.self.inside in let tx = c.args.tx in let now = c.roll_back.new.buffer in
    let l : Local = record { records = g.S.Store.records s.store; locks = g.L.Locks.rows s.locks; parts = s.parts.entries; pairs = s.deps.pairs; log = s.buffer.records; epoch = s.epoch } in
    let marked : c.mark_doomed.new.deps.marked ≡ doomed_here l tx = c.mark_doomed.ensures.marked ∙ marked_is_doomed l s.buffer.room c.self.invariant.sound tx in
    let sound = c.self.invariant.sound in let set = doomed_here l tx in
    let most = undo_at_most set l.log (doomed_here_rise l tx) in
    let spent = subst (λ (m : List TxId). s.buffer.room ≤ now.room + (length (aborts_of l.log m) + length (writes_of m (standing l.log)))) marked c.roll_back.ensures.room in
    let kept = c.room_beyond-kept.result in
    let told = subst (λ (m : List TxId). kept + owed_by (in_set m) l.log ≡ s.buffer.room) (c.marks.ensures.marked ∙ marked) c.room_beyond-kept.ensures in
    let back : c.trim.new.self ≡ record c.roll_back.new.buffer { room = kept } = c.trim.ensures ∙ ap (λ n. record c.roll_back.new.buffer { room = n }) (min-eq_right (omega (arith, told, most, spent))) in
    let undone = c.roll_back.ensures.records ∙ ap (λ (m : List TxId). records_without (is_of m) (standing l.log) l.records) marked in
    let locks = c.release_all.ensures.rows ∙ ap (λ (m : List TxId). release m l.locks) (c.marks-2.ensures.marked ∙ marked) in
    let records =
    c.release_all.ensures.records ∙ ap (λ (k : Locks). without_ghosts k (g.S.Store.records c.roll_back.new.store)) locks
    ∙ ap (without_ghosts (release (doomed_here l tx) l.locks)) undone in
    let parts = c.end_parts.ensures ∙ ap (λ (m : List TxId). gone_in m (Some tx) l.parts) (c.marks-3.ensures.marked ∙ marked) in
    let pairs = c.forget_marked.ensures.pairs ∙ ap (pairs_without c.mark_doomed.new.deps.marked) c.mark_doomed.ensures.pairs ∙ ap (λ (m : List TxId). pairs_without m l.pairs) marked in
    let log = c.roll_back.ensures.log ∙ ap (λ (m : List TxId). l.log ++ aborts_of l.log m ++ clrs_of m (standing l.log)) marked in
    let away = local_same _ _ _ _ _ (purge (take_away (doomed_here l tx) tx l)) records locks parts pairs log in
    let view : TxState = record { shard = s.shard; local = l; durable = s.buffer.durable; taken = s.buffer.taken; room = s.buffer.room; pairs_room = s.deps.room } in
    let m : Local = record { records = g.S.Store.records c.release_all.new.store; locks = g.L.Locks.rows c.release_all.new.locks; parts = c.end_parts.new.parts.entries; pairs = c.forget_marked.new.self.pairs; log = c.roll_back.new.buffer.records; epoch = s.epoch } in
    let left : Buffer LogRecord → TxState = λ b. record { shard = s.shard; local = record m { log = b.records }; durable = b.durable; taken = b.taken; room = b.room; pairs_room = c.forget_marked.new.self.room } in
    let ends : TxState → Buffer LogRecord → Type 0 = λ v b. left b ≡ record v { local = purge (roll_back tx v.local); room = b.room; pairs_room = c.forget_marked.new.self.room } in
    let inside : ends view (record now { room = kept }) =
    state_same s.shard m (purge (roll_back tx l)) now.durable s.buffer.durable now.taken s.buffer.taken kept c.forget_marked.new.self.room away c.roll_back.ensures.fronts.0 c.roll_back.ensures.fronts.1 in
    subst (λ (v : TxState). ends v c.trim.new.self) c.self.view_is (subst (λ (b : Buffer LogRecord). ends view b) (sym back) inside)

pub returns-clause-room : goal.returns-clause-room
returns-clause-room g c =
    let s = c.self.inside in let tx = c.args.tx in let now = c.roll_back.new.buffer in
    let l : Local = record { records = g.S.Store.records s.store; locks = g.L.Locks.rows s.locks; parts = s.parts.entries; pairs = s.deps.pairs; log = s.buffer.records; epoch = s.epoch } in
    let set = doomed_here l tx in let marked : c.mark_doomed.new.deps.marked ≡ doomed_here l tx = c.mark_doomed.ensures.marked ∙ marked_is_doomed l s.buffer.room c.self.invariant.sound tx in let sound = c.self.invariant.sound in
    let most = undo_at_most set l.log (doomed_here_rise l tx) in
    let spent = subst (λ (m : List TxId). s.buffer.room ≤ now.room + (length (aborts_of l.log m) + length (writes_of m (standing l.log)))) marked c.roll_back.ensures.room in
    let kept = c.room_beyond-kept.result in
    let told = subst (λ (m : List TxId). kept + owed_by (in_set m) l.log ≡ s.buffer.room) (c.marks.ensures.marked ∙ marked) c.room_beyond-kept.ensures in
    let back : c.trim.new.self ≡ record c.roll_back.new.buffer { room = kept } = c.trim.ensures ∙ ap (λ n. record c.roll_back.new.buffer { room = n }) (min-eq_right (omega (arith, told, most, spent))) in
    let spare = spare_away set tx l s.buffer.room kept (each_doomed_here l tx) (omega (arith, told)) in
    let parts = c.end_parts.ensures ∙ ap (λ (m : List TxId). gone_in m (Some tx) l.parts) (c.marks-3.ensures.marked ∙ marked) in
    let log = c.roll_back.ensures.log ∙ ap (λ (m : List TxId). l.log ++ aborts_of l.log m ++ clrs_of m (standing l.log)) marked in
    let view : TxState = record { shard = s.shard; local = l; durable = s.buffer.durable; taken = s.buffer.taken; room = s.buffer.room; pairs_room = s.deps.room } in
    let m : Local = record { records = g.S.Store.records c.release_all.new.store; locks = g.L.Locks.rows c.release_all.new.locks; parts = c.end_parts.new.parts.entries; pairs = c.forget_marked.new.self.pairs; log = c.roll_back.new.buffer.records; epoch = s.epoch } in
    let left : Buffer LogRecord → TxState = λ b. record { shard = s.shard; local = record m { log = b.records }; durable = b.durable; taken = b.taken; room = b.room; pairs_room = c.forget_marked.new.self.room } in
    let inside : KeepsSpare view (left (record now { room = kept })) = spare_like view (left (record now { room = kept })) (take_away set tx l) parts log spare in
    subst (λ (v : TxState). KeepsSpare v (left c.trim.new.self)) c.self.view_is (subst (λ (b : Buffer LogRecord). KeepsSpare view (left b)) (sym back) inside)

pub returns-clause-given_back : goal.returns-clause-given_back
returns-clause-given_back g c =
    let s = c.self.inside in let tx = c.args.tx in let now = c.roll_back.new.buffer in
    let l : Local = record { records = g.S.Store.records s.store; locks = g.L.Locks.rows s.locks; parts = s.parts.entries; pairs = s.deps.pairs; log = s.buffer.records; epoch = s.epoch } in
    let set = doomed_here l tx in let marked : c.mark_doomed.new.deps.marked ≡ doomed_here l tx = c.mark_doomed.ensures.marked ∙ marked_is_doomed l s.buffer.room c.self.invariant.sound tx in let sound = c.self.invariant.sound in
    let most = undo_at_most set l.log (doomed_here_rise l tx) in
    let spent = subst (λ (m : List TxId). s.buffer.room ≤ now.room + (length (aborts_of l.log m) + length (writes_of m (standing l.log)))) marked c.roll_back.ensures.room in
    let kept = c.room_beyond-kept.result in
    let told = subst (λ (m : List TxId). kept + owed_by (in_set m) l.log ≡ s.buffer.room) (c.marks.ensures.marked ∙ marked) c.room_beyond-kept.ensures in
    let back : c.trim.new.self ≡ record c.roll_back.new.buffer { room = kept } = c.trim.ensures ∙ ap (λ n. record c.roll_back.new.buffer { room = n }) (min-eq_right (omega (arith, told, most, spent))) in
    let spare = spare_back set tx l s.buffer.room kept (omega (arith, told)) in
    let parts = c.end_parts.ensures ∙ ap (λ (m : List TxId). gone_in m (Some tx) l.parts) (c.marks-3.ensures.marked ∙ marked) in
    let log = c.roll_back.ensures.log ∙ ap (λ (m : List TxId). l.log ++ aborts_of l.log m ++ clrs_of m (standing l.log)) marked in
    let view : TxState = record { shard = s.shard; local = l; durable = s.buffer.durable; taken = s.buffer.taken; room = s.buffer.room; pairs_room = s.deps.room } in
    let m : Local = record { records = g.S.Store.records c.release_all.new.store; locks = g.L.Locks.rows c.release_all.new.locks; parts = c.end_parts.new.parts.entries; pairs = c.forget_marked.new.self.pairs; log = c.roll_back.new.buffer.records; epoch = s.epoch } in
    let left : Buffer LogRecord → TxState = λ b. record { shard = s.shard; local = record m { log = b.records }; durable = b.durable; taken = b.taken; room = b.room; pairs_room = c.forget_marked.new.self.room } in
    let inside : KeepsSpare (left (record now { room = kept })) view = back_like view (left (record now { room = kept })) (take_away set tx l) parts log spare in
    subst (λ (v : TxState). KeepsSpare (left c.trim.new.self) v) c.self.view_is (subst (λ (b : Buffer LogRecord). KeepsSpare (left b) view) (sym back) inside)

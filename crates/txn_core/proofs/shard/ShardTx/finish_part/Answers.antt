-- What the others did can still be taken away.
use Rattle.std.proofs.Common.{◌≡◌, [], ◌∷◌, None, refl, sym, ap, subst, ◌∙◌, arith}
use Rattle.std.proofs.Math.Nat.{min-eq_right}
use Rattle.clv_base.specs.declared.logs.LogRecord.{LogRecord}
use Rattle.log_buffer.specs.Buffers.{Buffer}
use Rattle.clv_base.specs.Orders.{tx_get}
use Rattle.clv_base.specs.Locks.{Locks, release}
use Rattle.clv_base.specs.Needs.{without_ghosts}
use Rattle.clv_base.specs.State.{Local}
use Rattle.clv_base.specs.Undo.{release_parts, pairs_without}
use Rattle.clv_base.specs.OneShard.{purge}
use Rattle.shard_ops.proofs.Laws.{purged_are_locked}
use Rattle.txn_core.specs.State.{TxState}
use Rattle.txn_core.specs.Sound.{KeepsSpare}
use Rattle.txn_core.proofs.Undoing.{local_same, state_same, sound_more, spare_like}
use Rattle.txn_core.proofs.Locked.{sound_purged, ghosts_same}
use Rattle.txn_core.proofs.Closed.{sound_finished}
use Rattle.txn_core.proofs.Totals.{still_sound}
use Rattle.txn_core.proofs.Returning.{Kept, finished_own, back_like}
use Rattle.txn_core.proofs.Crowds.{few_same, few_without}
use Rattle.txn_core.proofs.Spelling.{spelled_same, spelled_finished}
use Rattle.txn_core.proofs.shard.ShardTx.finish_part.Goals as goal

pub invariant_of-self : goal.invariant_of-self
invariant_of-self g c =
    let s = c.self.inside in let tx = c.args.tx in let kept = c.room_without-kept.result in
    let l : Local = record { records = g.S.Store.records s.store; locks = g.L.Locks.rows s.locks; parts = s.parts.entries; pairs = s.deps.pairs; log = s.buffer.records; epoch = s.epoch } in
    let after = purge (release_parts (tx ∷ []) None l) in
    let records = c.release_all.ensures.records ∙ ap (λ (k : Locks). without_ghosts k (g.S.Store.records s.store)) c.release_all.ensures.rows in
    let split = finished_own tx l in
    let back : c.trim.new.self ≡ record s.buffer { room = kept } = c.trim.ensures ∙ ap (λ n. record s.buffer { room = n }) (min-eq_right (omega (arith, c.room_without-kept.ensures))) in
    let left = local_same _ _ _ _ _ after records c.release_all.ensures.rows c.finish_in.ensures c.forget.ensures.pairs refl in
    let base : Kept c.forget.new.self.commits (record { records = g.S.Store.records c.release_all.new.store; locks = g.L.Locks.rows c.release_all.new.locks; parts = c.finish_in.new.parts.entries; pairs = c.forget.new.self.pairs; log = s.buffer.records; epoch = s.epoch }) (record s.buffer { room = kept }) = record {
      settled = λ t. ap (tx_get t) c.forget.ensures.commits ∙ c.self.invariant.settled t;
      sound = sound_more after _ kept kept left (omega arith)
          (sound_purged (release_parts (tx ∷ []) None l) kept
          (still_sound (release_parts (tx ∷ []) None l) s.buffer.room kept (sound_finished tx l s.buffer.room c.self.invariant.sound) (omega (arith, split, c.room_without-kept.ensures, c.self.invariant.sound.room))));
      ghosts = ghosts_same _ _ _ _ c.release_all.ensures.rows records (purged_are_locked (release (tx ∷ []) l.locks) l.records);
      few = few_same l.log l.log (pairs_without (tx ∷ []) l.pairs) _ refl c.forget.ensures.pairs (few_without (tx ∷ []) l.log l.pairs c.self.invariant.few);
      spelled = spelled_same _ after left (spelled_finished tx l c.self.invariant.spelled);
    } in
    subst (λ (b : Buffer LogRecord). Kept c.forget.new.self.commits (record { records = g.S.Store.records c.release_all.new.store; locks = g.L.Locks.rows c.release_all.new.locks; parts = c.finish_in.new.parts.entries; pairs = c.forget.new.self.pairs; log = s.buffer.records; epoch = s.epoch }) b) (sym back) base

pub returns-clause-finished : goal.returns-clause-finished
returns-clause-finished g c =
    let s = c.self.inside in let tx = c.args.tx in let kept = c.room_without-kept.result in
    let l : Local = record { records = g.S.Store.records s.store; locks = g.L.Locks.rows s.locks; parts = s.parts.entries; pairs = s.deps.pairs; log = s.buffer.records; epoch = s.epoch } in
    let view : TxState = record { shard = s.shard; local = l; durable = s.buffer.durable; taken = s.buffer.taken; room = s.buffer.room; pairs_room = s.deps.room } in
    let back : c.trim.new.self ≡ record s.buffer { room = kept } = c.trim.ensures ∙ ap (λ n. record s.buffer { room = n }) (min-eq_right (omega (arith, c.room_without-kept.ensures))) in
    let m : Local = record { records = g.S.Store.records c.release_all.new.store; locks = g.L.Locks.rows c.release_all.new.locks; parts = c.finish_in.new.parts.entries; pairs = c.forget.new.self.pairs; log = s.buffer.records; epoch = s.epoch } in
    let left : Buffer LogRecord → TxState = λ b. record { shard = s.shard; local = record m { log = b.records }; durable = b.durable; taken = b.taken; room = b.room; pairs_room = c.forget.new.self.room } in
    let records = c.release_all.ensures.records ∙ ap (λ (k : Locks). without_ghosts k (g.S.Store.records s.store)) c.release_all.ensures.rows in
    let after = purge (release_parts (tx ∷ []) None l) in
    let ends : TxState → Buffer LogRecord → Type 0 = λ v b. left b ≡ record v { local = purge (release_parts (tx ∷ []) None v.local); room = b.room; pairs_room = c.forget.new.self.room } in
    let inside : ends view (record s.buffer { room = kept }) =
    state_same s.shard m after s.buffer.durable s.buffer.durable s.buffer.taken s.buffer.taken kept c.forget.new.self.room (local_same _ _ _ _ _ after records c.release_all.ensures.rows c.finish_in.ensures c.forget.ensures.pairs refl) refl refl in
    subst (λ (v : TxState). ends v c.trim.new.self) c.self.view_is (subst (λ (b : Buffer LogRecord). ends view b) (sym back) inside)

pub returns-clause-room : goal.returns-clause-room
returns-clause-room g c =
    let s = c.self.inside in let tx = c.args.tx in let kept = c.room_without-kept.result in
    let l : Local = record { records = g.S.Store.records s.store; locks = g.L.Locks.rows s.locks; parts = s.parts.entries; pairs = s.deps.pairs; log = s.buffer.records; epoch = s.epoch } in
    let view : TxState = record { shard = s.shard; local = l; durable = s.buffer.durable; taken = s.buffer.taken; room = s.buffer.room; pairs_room = s.deps.room } in
    let back : c.trim.new.self ≡ record s.buffer { room = kept } = c.trim.ensures ∙ ap (λ n. record s.buffer { room = n }) (min-eq_right (omega (arith, c.room_without-kept.ensures))) in
    let m : Local = record { records = g.S.Store.records c.release_all.new.store; locks = g.L.Locks.rows c.release_all.new.locks; parts = c.finish_in.new.parts.entries; pairs = c.forget.new.self.pairs; log = s.buffer.records; epoch = s.epoch } in
    let left : Buffer LogRecord → TxState = λ b. record { shard = s.shard; local = record m { log = b.records }; durable = b.durable; taken = b.taken; room = b.room; pairs_room = c.forget.new.self.room } in
    let split = finished_own tx l in
    let inside : KeepsSpare view (left (record s.buffer { room = kept })) = spare_like view (left (record s.buffer { room = kept })) (release_parts (tx ∷ []) None l) c.finish_in.ensures refl (omega (arith, split, c.room_without-kept.ensures)) in
    subst (λ (v : TxState). KeepsSpare v (left c.trim.new.self)) c.self.view_is (subst (λ (b : Buffer LogRecord). KeepsSpare view (left b)) (sym back) inside)

pub returns-clause-given_back : goal.returns-clause-given_back
returns-clause-given_back g c =
    let s = c.self.inside in let tx = c.args.tx in let kept = c.room_without-kept.result in
    let l : Local = record { records = g.S.Store.records s.store; locks = g.L.Locks.rows s.locks; parts = s.parts.entries; pairs = s.deps.pairs; log = s.buffer.records; epoch = s.epoch } in
    let view : TxState = record { shard = s.shard; local = l; durable = s.buffer.durable; taken = s.buffer.taken; room = s.buffer.room; pairs_room = s.deps.room } in
    let back : c.trim.new.self ≡ record s.buffer { room = kept } = c.trim.ensures ∙ ap (λ n. record s.buffer { room = n }) (min-eq_right (omega (arith, c.room_without-kept.ensures))) in
    let m : Local = record { records = g.S.Store.records c.release_all.new.store; locks = g.L.Locks.rows c.release_all.new.locks; parts = c.finish_in.new.parts.entries; pairs = c.forget.new.self.pairs; log = s.buffer.records; epoch = s.epoch } in
    let left : Buffer LogRecord → TxState = λ b. record { shard = s.shard; local = record m { log = b.records }; durable = b.durable; taken = b.taken; room = b.room; pairs_room = c.forget.new.self.room } in
    let split = finished_own tx l in
    let inside : KeepsSpare (left (record s.buffer { room = kept })) view = back_like view (left (record s.buffer { room = kept })) (release_parts (tx ∷ []) None l) c.finish_in.ensures refl (omega (arith, split, c.room_without-kept.ensures)) in
    subst (λ (v : TxState). KeepsSpare (left c.trim.new.self) v) c.self.view_is (subst (λ (b : Buffer LogRecord). KeepsSpare (left b) view) (sym back) inside)

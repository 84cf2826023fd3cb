-- A mark changes no stage, so all can still be taken away, and what is reserved beyond that stays.
use Rattle.std.proofs.Common.{◌≡◌, refl, subst, arith}
use Rattle.clv_base.specs.State.{Local}
use Rattle.clv_base.specs.OneShard.{mark_dropped}
use Rattle.txn_core.proofs.Undoing.{marked_sound, sound_more, local_same, spare_marked, spare_through}
use Rattle.txn_core.proofs.Returning.{back_marked}
use Rattle.txn_core.proofs.Spelling.{spelled_parts}
use Rattle.txn_core.specs.State.{TxState}
use Rattle.txn_core.specs.Sound.{KeepsSpare}
use Rattle.txn_core.proofs.shard.ShardTx.drop_part.Goals.{in-Some-Active, in-Some-Gone}
use Rattle.txn_core.proofs.shard.ShardTx.drop_part.Goals as goal

pub invariant_of-self : goal.invariant_of-self
invariant_of-self g c =
    let s = c.self-2.inside in let tx = c.args.tx in
    let l : Local = record { records = g.S.Store.records s.store; locks = g.L.Locks.rows s.locks; parts = s.parts.entries; pairs = s.deps.pairs; log = s.buffer.records; epoch = s.epoch } in
    record {
      settled = c.self-2.invariant.settled;
      sound = sound_more (mark_dropped tx l) _ s.buffer.room s.buffer.room (local_same _ _ _ _ _ (mark_dropped tx l) refl refl c.mark_dropped.ensures refl refl) (omega arith) (marked_sound l tx s.buffer.room c.self-2.invariant.sound);
      ghosts = c.self-2.invariant.ghosts;
      few = c.self-2.invariant.few;
      spelled = spelled_parts c.mark_dropped.new.parts.entries l c.self-2.invariant.spelled;
    }

pub returns-clause-room : goal.returns-clause-room
returns-clause-room g c =
    let s = c.self-2.inside in let tx = c.args.tx in let before = c.args.self.now in let between = c.match-this.self in
    let l : Local = record { records = g.S.Store.records s.store; locks = g.L.Locks.rows s.locks; parts = s.parts.entries; pairs = s.deps.pairs; log = s.buffer.records; epoch = s.epoch } in
    let view : TxState = record { shard = s.shard; local = l; durable = s.buffer.durable; taken = s.buffer.taken; room = s.buffer.room; pairs_room = s.deps.room } in
    let m : Local = record l { parts = c.mark_dropped.new.parts.entries } in
    let left : TxState = record view { local = m } in
    let marked : KeepsSpare view left = spare_marked view left tx c.mark_dropped.ensures refl (omega arith) in
    let after : KeepsSpare between left = subst (λ (v : TxState). KeepsSpare v left) c.self-2.view_is marked in
    let rolled : KeepsSpare before between =
    elim c.match-this.branch [
      | in-Some-Active w ↦ let same : w.roll_back_part.new.self ≡ between = cc in subst (λ (v : TxState). KeepsSpare before v) same w.roll_back_part.ensures.room
      | in-Some-Gone w ↦ let same : before ≡ between = cc in subst (λ (v : TxState). KeepsSpare before v) same (omega arith)
    ] in
    spare_through before between left rolled after

pub returns-clause-given_back : goal.returns-clause-given_back
returns-clause-given_back g c =
    let s = c.self-2.inside in let tx = c.args.tx in let before = c.args.self.now in let between = c.match-this.self in
    let l : Local = record { records = g.S.Store.records s.store; locks = g.L.Locks.rows s.locks; parts = s.parts.entries; pairs = s.deps.pairs; log = s.buffer.records; epoch = s.epoch } in
    let view : TxState = record { shard = s.shard; local = l; durable = s.buffer.durable; taken = s.buffer.taken; room = s.buffer.room; pairs_room = s.deps.room } in
    let m : Local = record l { parts = c.mark_dropped.new.parts.entries } in
    let left : TxState = record view { local = m } in
    let marked : KeepsSpare left view = back_marked view left tx c.mark_dropped.ensures refl (omega arith) in
    let after : KeepsSpare left between = subst (λ (v : TxState). KeepsSpare left v) c.self-2.view_is marked in
    let rolled : KeepsSpare between before =
    elim c.match-this.branch [
      | in-Some-Active w ↦ let same : w.roll_back_part.new.self ≡ between = cc in subst (λ (v : TxState). KeepsSpare v before) same w.roll_back_part.ensures.given_back
      | in-Some-Gone w ↦ let same : before ≡ between = cc in subst (λ (v : TxState). KeepsSpare v before) same (omega arith)
    ] in
    spare_through left between before after rolled

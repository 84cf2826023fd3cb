-- The newest writes are taken back, what was reserved for them is used, and what isn't wanted any more is given back.
use Rattle.std.proofs.Common.{◌≡◌, ◌+◌, [], ◌∷◌, Some, refl, sym, ap, subst, ◌∙◌, arith}
use Rattle.std.proofs.Math.Nat.{min-eq_right}
use Rattle.clv_base.specs.declared.logs.LogRecord.{LogRecord}
use Rattle.clv_base.specs.declared.state.Stage.TheVariants.{Active}
use Rattle.clv_base.specs.Logs.{commit_lsn, standing}
use Rattle.clv_base.specs.State.{Local}
use Rattle.clv_base.specs.Undo.{stage_of, is_at, clrs_by, newest_lsns, roll_to}
use Rattle.law_base.proofs.Names.{one_rises}
use Rattle.log_buffer.specs.Buffers.{Buffer}
use Rattle.protocol_laws.proofs.Laws.{rolls_keep}
use Rattle.txn_core.specs.State.{TxState}
use Rattle.txn_core.specs.Sound.{owed_by, KeepsSpare}
use Rattle.txn_core.proofs.Backing.{have_records, own_owed, owed_own, owed_all, less_written, back_sound, back_ghosts}
use Rattle.txn_core.proofs.Counting.{in_set}
use Rattle.txn_core.proofs.Crowds.{few_same, few_grows}
use Rattle.txn_core.proofs.Locked.{ghosts_same}
use Rattle.txn_core.proofs.Returning.{Kept, back_like}
use Rattle.txn_core.proofs.Settled.{commit_lsn-back}
use Rattle.txn_core.proofs.Spelling.{spelled_same}
use Rattle.txn_core.proofs.Undoing.{local_same, sound_more, spare_like, state_same}
use Rattle.txn_core.proofs.shard.ShardTx.roll_to.Goals as goal

pub room_beyond-others-requires-clause-rising : goal.room_beyond-others-requires-clause-rising
room_beyond-others-requires-clause-rising g c = one_rises c.args.tx

pub room_beyond-others-requires-clause-room : goal.room_beyond-others-requires-clause-room
room_beyond-others-requires-clause-room g c =
    let s = c.self.inside in let tx = c.args.tx in
    let l : Local = record { records = g.S.Store.records s.store; locks = g.L.Locks.rows s.locks; parts = s.parts.entries; pairs = s.deps.pairs; log = s.buffer.records; epoch = s.epoch } in
    let active : stage_of l tx ≡ Some Active = subst (λ (v : TxState). stage_of v.local tx ≡ Some Active) (sym c.self.view_is) c.requires in
    own_owed tx c.args.count l active s.buffer.room c.self.invariant.sound

pub roll_to-requires-clause-there : goal.roll_to-requires-clause-there
roll_to-requires-clause-there g c =
    let s = c.self.inside in let tx = c.args.tx in
    let l : Local = record { records = g.S.Store.records s.store; locks = g.L.Locks.rows s.locks; parts = s.parts.entries; pairs = s.deps.pairs; log = s.buffer.records; epoch = s.epoch } in
    let active : stage_of l tx ≡ Some Active = subst (λ (v : TxState). stage_of v.local tx ≡ Some Active) (sym c.self.view_is) c.requires in
    have_records tx c.args.count l active s.buffer.room c.self.invariant.sound

pub roll_to-requires-clause-room : goal.roll_to-requires-clause-room
roll_to-requires-clause-room g c =
    let s = c.self.inside in let tx = c.args.tx in
    let l : Local = record { records = g.S.Store.records s.store; locks = g.L.Locks.rows s.locks; parts = s.parts.entries; pairs = s.deps.pairs; log = s.buffer.records; epoch = s.epoch } in
    let active : stage_of l tx ≡ Some Active = subst (λ (v : TxState). stage_of v.local tx ≡ Some Active) (sym c.self.view_is) c.requires in
    let most = own_owed tx c.args.count l active s.buffer.room c.self.invariant.sound in let own = owed_own tx c.args.count l active in let written = less_written tx c.args.count l active in
    omega (arith, most, own, written)

pub owed_to-own-requires-clause-rising : goal.owed_to-own-requires-clause-rising
owed_to-own-requires-clause-rising g c = one_rises c.args.tx

pub owed_to-own-requires-clause-room : goal.owed_to-own-requires-clause-room
owed_to-own-requires-clause-room g c =
    let s = c.self.inside in let tx = c.args.tx in let n = c.args.count in let now = c.roll_to.new.buffer in
    let l : Local = record { records = g.S.Store.records s.store; locks = g.L.Locks.rows s.locks; parts = s.parts.entries; pairs = s.deps.pairs; log = s.buffer.records; epoch = s.epoch } in
    let active : stage_of l tx ≡ Some Active = subst (λ (v : TxState). stage_of v.local tx ≡ Some Active) (sym c.self.view_is) c.requires in
    let own = owed_own tx n l active in let written = less_written tx n l active in let spent = c.roll_to.ensures.room in
    let after = ap (owed_by (in_set (tx ∷ []))) c.roll_to.ensures.log in
    let most = own_owed tx n l active s.buffer.room c.self.invariant.sound in omega (arith, own, written, spent, after, most)

pub overflow_add-others : goal.overflow_add-others
overflow_add-others g c =
    let s = c.self.inside in let tx = c.args.tx in let n = c.args.count in let now = c.roll_to.new.buffer in
    let l : Local = record { records = g.S.Store.records s.store; locks = g.L.Locks.rows s.locks; parts = s.parts.entries; pairs = s.deps.pairs; log = s.buffer.records; epoch = s.epoch } in
    let active : stage_of l tx ≡ Some Active = subst (λ (v : TxState). stage_of v.local tx ≡ Some Active) (sym c.self.view_is) c.requires in
    let own = owed_own tx n l active in let written = less_written tx n l active in let spent = c.roll_to.ensures.room in
    let after = ap (owed_by (in_set (tx ∷ []))) c.roll_to.ensures.log in
    let told = c.room_beyond-others.ensures in let wanted = c.owed_to-own.ensures in let room = c.room-room.ensures in let fits = c.room-room.type_inv in
    omega (arith, own, written, spent, after, told, wanted, room, fits)

pub invariant_of-self : goal.invariant_of-self
invariant_of-self g c =
    let s = c.self.inside in let tx = c.args.tx in let n = c.args.count in let now = c.roll_to.new.buffer in
    let l : Local = record { records = g.S.Store.records s.store; locks = g.L.Locks.rows s.locks; parts = s.parts.entries; pairs = s.deps.pairs; log = s.buffer.records; epoch = s.epoch } in
    let active : stage_of l tx ≡ Some Active = subst (λ (v : TxState). stage_of v.local tx ≡ Some Active) (sym c.self.view_is) c.requires in
    let own = owed_own tx n l active in let written = less_written tx n l active in let spent = c.roll_to.ensures.room in
    let after = ap (owed_by (in_set (tx ∷ []))) c.roll_to.ensures.log in
    let told = c.room_beyond-others.ensures in let wanted = c.owed_to-own.ensures in let kept = c.room_beyond-others.result + c.owed_to-own.result in
    let back : c.trim.new.self ≡ record now { room = kept } = c.trim.ensures ∙ ap (λ m. record now { room = m }) (min-eq_right (omega (arith, own, written, spent, after, told, wanted))) in
    let all = owed_all tx n l active in
    let sound = c.self.invariant.sound in let room = sound.room in
    let m : Local = record { records = g.S.Store.records c.roll_to.new.store; locks = l.locks; parts = l.parts; pairs = l.pairs; log = now.records; epoch = s.epoch } in
    let rolled = local_same _ _ _ _ _ (roll_to tx n l) c.roll_to.ensures.records refl refl refl c.roll_to.ensures.log in
    let base : Kept s.deps.commits m (record now { room = kept }) =
    record {
      settled = λ t. c.self.invariant.settled t ∙ sym (ap (λ lg. commit_lsn lg t) c.roll_to.ensures.log ∙ commit_lsn-back t (is_at (newest_lsns n tx (standing l.log))) (standing l.log) l.log);
      sound = sound_more (roll_to tx n l) _ kept kept rolled (omega arith) (back_sound tx n l active s.buffer.room kept sound (omega (arith, own, after, told, wanted, all, room)));
      ghosts = ghosts_same l.locks l.locks (roll_to tx n l).records (g.S.Store.records c.roll_to.new.store) refl c.roll_to.ensures.records (back_ghosts tx n l active s.buffer.room sound c.self.invariant.ghosts);
      few = few_same (roll_to tx n l).log now.records l.pairs _ c.roll_to.ensures.log refl (few_grows l.log (clrs_by (is_at (newest_lsns n tx (standing l.log))) (standing l.log)) l.pairs c.self.invariant.few);
      spelled = spelled_same _ (roll_to tx n l) rolled (rolls_keep tx n l (omega (arith, c.end-end.ensures.end, c.end-end.type_inv)) c.self.invariant.spelled);
    }
    in subst (λ (b : Buffer LogRecord). Kept s.deps.commits m b) (sym back) base

pub returns-clause-rolled : goal.returns-clause-rolled
returns-clause-rolled g c =
    let s = c.self.inside in let tx = c.args.tx in let n = c.args.count in let now = c.roll_to.new.buffer in
    let l : Local = record { records = g.S.Store.records s.store; locks = g.L.Locks.rows s.locks; parts = s.parts.entries; pairs = s.deps.pairs; log = s.buffer.records; epoch = s.epoch } in
    let active : stage_of l tx ≡ Some Active = subst (λ (v : TxState). stage_of v.local tx ≡ Some Active) (sym c.self.view_is) c.requires in
    let own = owed_own tx n l active in let written = less_written tx n l active in let spent = c.roll_to.ensures.room in
    let after = ap (owed_by (in_set (tx ∷ []))) c.roll_to.ensures.log in
    let told = c.room_beyond-others.ensures in let wanted = c.owed_to-own.ensures in let kept = c.room_beyond-others.result + c.owed_to-own.result in
    let back : c.trim.new.self ≡ record now { room = kept } = c.trim.ensures ∙ ap (λ m. record now { room = m }) (min-eq_right (omega (arith, own, written, spent, after, told, wanted))) in
    let all = owed_all tx n l active in
    let rolled = local_same _ _ _ _ _ (roll_to tx n l) c.roll_to.ensures.records refl refl refl c.roll_to.ensures.log in
    let view : TxState = record { shard = s.shard; local = l; durable = s.buffer.durable; taken = s.buffer.taken; room = s.buffer.room; pairs_room = s.deps.room } in
    let m : Local = record { records = g.S.Store.records c.roll_to.new.store; locks = l.locks; parts = l.parts; pairs = l.pairs; log = now.records; epoch = s.epoch } in
    let left : Buffer LogRecord → TxState = λ b. record { shard = s.shard; local = record m { log = b.records }; durable = b.durable; taken = b.taken; room = b.room; pairs_room = s.deps.room } in
    let ends : TxState → Buffer LogRecord → Type 0 = λ v b. left b ≡ record v { local = roll_to tx n v.local; room = b.room; pairs_room = s.deps.room } in
    let inside : ends view (record now { room = kept }) =
    state_same s.shard m (roll_to tx n l) now.durable s.buffer.durable now.taken s.buffer.taken kept s.deps.room rolled c.roll_to.ensures.fronts.0 c.roll_to.ensures.fronts.1 in
    subst (λ (v : TxState). ends v c.trim.new.self) c.self.view_is (subst (λ (b : Buffer LogRecord). ends view b) (sym back) inside)

pub returns-clause-room : goal.returns-clause-room
returns-clause-room g c =
    let s = c.self.inside in let tx = c.args.tx in let n = c.args.count in let now = c.roll_to.new.buffer in
    let l : Local = record { records = g.S.Store.records s.store; locks = g.L.Locks.rows s.locks; parts = s.parts.entries; pairs = s.deps.pairs; log = s.buffer.records; epoch = s.epoch } in
    let active : stage_of l tx ≡ Some Active = subst (λ (v : TxState). stage_of v.local tx ≡ Some Active) (sym c.self.view_is) c.requires in
    let own = owed_own tx n l active in let written = less_written tx n l active in let spent = c.roll_to.ensures.room in
    let after = ap (owed_by (in_set (tx ∷ []))) c.roll_to.ensures.log in
    let told = c.room_beyond-others.ensures in let wanted = c.owed_to-own.ensures in let kept = c.room_beyond-others.result + c.owed_to-own.result in
    let back : c.trim.new.self ≡ record now { room = kept } = c.trim.ensures ∙ ap (λ m. record now { room = m }) (min-eq_right (omega (arith, own, written, spent, after, told, wanted))) in
    let all = owed_all tx n l active in
    let view : TxState = record { shard = s.shard; local = l; durable = s.buffer.durable; taken = s.buffer.taken; room = s.buffer.room; pairs_room = s.deps.room } in
    let m : Local = record { records = g.S.Store.records c.roll_to.new.store; locks = l.locks; parts = l.parts; pairs = l.pairs; log = now.records; epoch = s.epoch } in
    let left : Buffer LogRecord → TxState = λ b. record { shard = s.shard; local = record m { log = b.records }; durable = b.durable; taken = b.taken; room = b.room; pairs_room = s.deps.room } in
    let inside : KeepsSpare view (left (record now { room = kept })) = spare_like view (left (record now { room = kept })) (roll_to tx n l) refl c.roll_to.ensures.log (omega (arith, own, after, told, wanted, all)) in
    subst (λ (v : TxState). KeepsSpare v (left c.trim.new.self)) c.self.view_is (subst (λ (b : Buffer LogRecord). KeepsSpare view (left b)) (sym back) inside)

pub returns-clause-given_back : goal.returns-clause-given_back
returns-clause-given_back g c =
    let s = c.self.inside in let tx = c.args.tx in let n = c.args.count in let now = c.roll_to.new.buffer in
    let l : Local = record { records = g.S.Store.records s.store; locks = g.L.Locks.rows s.locks; parts = s.parts.entries; pairs = s.deps.pairs; log = s.buffer.records; epoch = s.epoch } in
    let active : stage_of l tx ≡ Some Active = subst (λ (v : TxState). stage_of v.local tx ≡ Some Active) (sym c.self.view_is) c.requires in
    let own = owed_own tx n l active in let written = less_written tx n l active in let spent = c.roll_to.ensures.room in
    let after = ap (owed_by (in_set (tx ∷ []))) c.roll_to.ensures.log in
    let told = c.room_beyond-others.ensures in let wanted = c.owed_to-own.ensures in let kept = c.room_beyond-others.result + c.owed_to-own.result in
    let back : c.trim.new.self ≡ record now { room = kept } = c.trim.ensures ∙ ap (λ m. record now { room = m }) (min-eq_right (omega (arith, own, written, spent, after, told, wanted))) in
    let all = owed_all tx n l active in
    let view : TxState = record { shard = s.shard; local = l; durable = s.buffer.durable; taken = s.buffer.taken; room = s.buffer.room; pairs_room = s.deps.room } in
    let m : Local = record { records = g.S.Store.records c.roll_to.new.store; locks = l.locks; parts = l.parts; pairs = l.pairs; log = now.records; epoch = s.epoch } in
    let left : Buffer LogRecord → TxState = λ b. record { shard = s.shard; local = record m { log = b.records }; durable = b.durable; taken = b.taken; room = b.room; pairs_room = s.deps.room } in
    let inside : KeepsSpare (left (record now { room = kept })) view = back_like view (left (record now { room = kept })) (roll_to tx n l) refl c.roll_to.ensures.log (omega (arith, own, after, told, wanted, all)) in
    subst (λ (v : TxState). KeepsSpare (left c.trim.new.self) v) c.self.view_is (subst (λ (b : Buffer LogRecord). KeepsSpare (left b) view) (sym back) inside)

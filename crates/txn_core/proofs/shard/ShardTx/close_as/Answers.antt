-- The part is closed, and the record is at the end of the log.
use Rattle.std.proofs.Common.{◌≡◌, ◌+◌, ◌++◌, List, length, refl, sym, ap, subst, ◌∙◌, arith, Some}
use Rattle.clv_base.specs.declared.logs.LogRecord.{LogRecord}
use Rattle.clv_base.specs.declared.state.Stage.TheVariants.{Active}
use Rattle.clv_base.specs.Logs.{has_standing}
use Rattle.clv_base.specs.State.{Local, is_present}
use Rattle.clv_base.specs.Undo.{stage_of}
use Rattle.clv_base.specs.Facts.{undecided_of}
use Rattle.clv_base.specs.OneShard.{closing, close_part}
use Rattle.txn_core.specs.State.{TxState}
use Rattle.txn_core.specs.Sound.{HasSpare, SpendsSpare, UsesSpare}
use Rattle.txn_core.specs.Closings.{planned, IsClosing}
use Rattle.txn_core.proofs.Undoing.{local_same, state_same, sound_more}
use Rattle.txn_core.proofs.Locked.{ghosts_same}
use Rattle.txn_core.proofs.Closed.{closed_sound, closed_fewer, closed_back, closed_ghosts, spends_like, uses_like}
use Rattle.txn_core.proofs.Crowds.{few_same, few_grows}
use Rattle.txn_core.proofs.Spelling.{spelled_same, spelled_closed}
use Rattle.txn_core.proofs.shard.ShardTx.close_as.Goals as goal

pub close_in-requires : goal.close_in-requires
close_in-requires g c = ap is_present (subst (λ (v : TxState). stage_of v.local c.args.tx ≡ Some Active) (sym c.self.view_is) c.requires.active)

pub invariant_of-self : goal.invariant_of-self
invariant_of-self g c =
    let s = c.self.inside in let tx = c.args.tx in let home = c.args.home in let one = c.args.one_shard in
    let l : Local = record { records = g.S.Store.records s.store; locks = g.L.Locks.rows s.locks; parts = s.parts.entries; pairs = s.deps.pairs; log = s.buffer.records; epoch = s.epoch } in
    let active : stage_of l tx ≡ Some Active = subst (λ (v : TxState). stage_of v.local tx ≡ Some Active) (sym c.self.view_is) c.requires.active in
    let plan : planned tx home c.args.plan ≡ closing (has_standing l.log tx) one tx home (undecided_of l tx) = subst (λ (v : TxState). planned tx home c.args.plan ≡ closing (has_standing (v.local).log tx) one tx home (undecided_of v.local tx)) (sym c.self.view_is) c.requires.plan in
    let log : c.write_closing.new.buffer.records ≡ l.log ++ closing (has_standing l.log tx) one tx home (undecided_of l tx) = c.write_closing.ensures.records ∙ ap (λ (rs : List LogRecord). s.buffer.records ++ rs) plan in
    let view : TxState = record { shard = s.shard; local = l; durable = s.buffer.durable; taken = s.buffer.taken; room = s.buffer.room; pairs_room = s.deps.room } in
    let spare : HasSpare 1 view = subst (λ (v : TxState). HasSpare 1 v) (sym c.self.view_is) c.requires.room.0 in
    let spent = c.write_closing.ensures.room.0 in
    let left = local_same _ _ _ _ _ (close_part tx home one l) refl c.close_part.ensures.rows c.close_in.ensures c.write_closing.ensures.pairs log in
    record {
      settled = c.write_closing.ensures.settled;
      sound = sound_more (close_part tx home one l) _ c.write_closing.new.buffer.room c.write_closing.new.buffer.room left (omega arith)
          (closed_sound l tx home one s.buffer.room c.write_closing.new.buffer.room active c.self.invariant.sound (omega (arith, spare, spent)));
      ghosts = ghosts_same _ _ _ _ c.close_part.ensures.rows refl (closed_ghosts tx l.locks l.records c.self.invariant.ghosts);
      few = few_same (close_part tx home one l).log c.write_closing.new.buffer.records l.pairs _ log c.write_closing.ensures.pairs
          (few_grows l.log (closing (has_standing l.log tx) one tx home (undecided_of l tx)) l.pairs c.self.invariant.few);
      spelled = spelled_same _ (close_part tx home one l) left (spelled_closed tx home one l c.requires.home c.self.invariant.few c.self.invariant.spelled);
    }

pub returns-clause-closed : goal.returns-clause-closed
returns-clause-closed g c =
    let s = c.self.inside in let tx = c.args.tx in let home = c.args.home in let one = c.args.one_shard in let now = c.write_closing.new.buffer in let deps = c.write_closing.new.deps in
    let l : Local = record { records = g.S.Store.records s.store; locks = g.L.Locks.rows s.locks; parts = s.parts.entries; pairs = s.deps.pairs; log = s.buffer.records; epoch = s.epoch } in
    let plan : planned tx home c.args.plan ≡ closing (has_standing l.log tx) one tx home (undecided_of l tx) = subst (λ (v : TxState). planned tx home c.args.plan ≡ closing (has_standing (v.local).log tx) one tx home (undecided_of v.local tx)) (sym c.self.view_is) c.requires.plan in
    let log : now.records ≡ l.log ++ closing (has_standing l.log tx) one tx home (undecided_of l tx) = c.write_closing.ensures.records ∙ ap (λ (rs : List LogRecord). s.buffer.records ++ rs) plan in
    let closed = local_same _ _ _ _ _ (close_part tx home one l) refl c.close_part.ensures.rows c.close_in.ensures c.write_closing.ensures.pairs log in
    let inside = state_same s.shard _ (close_part tx home one l) now.durable s.buffer.durable now.taken s.buffer.taken now.room deps.room closed c.write_closing.ensures.fronts.0 c.write_closing.ensures.fronts.1 in
    let m : Local = record { records = g.S.Store.records s.store; locks = g.L.Locks.rows c.close_part.new.self; parts = c.close_in.new.parts.entries; pairs = deps.pairs; log = now.records; epoch = s.epoch } in
    let left : TxState = record { shard = s.shard; local = m; durable = now.durable; taken = now.taken; room = now.room; pairs_room = deps.room } in
    subst (λ (v : TxState). ◌≡◌ {A = TxState} left (record { shard = v.shard; local = close_part tx home one v.local; durable = v.durable; taken = v.taken; room = now.room; pairs_room = deps.room })) c.self.view_is inside

pub returns-clause-written : goal.returns-clause-written
returns-clause-written g c =
    let s = c.self.inside in let tx = c.args.tx in let home = c.args.home in
    let l : Local = record { records = g.S.Store.records s.store; locks = g.L.Locks.rows s.locks; parts = s.parts.entries; pairs = s.deps.pairs; log = s.buffer.records; epoch = s.epoch } in
    let plan : planned tx home c.args.plan ≡ closing (has_standing l.log tx) c.args.one_shard tx home (undecided_of l tx) = subst (λ (v : TxState). planned tx home c.args.plan ≡ closing (has_standing (v.local).log tx) c.args.one_shard tx home (undecided_of v.local tx)) (sym c.self.view_is) c.requires.plan in
    subst (λ (v : TxState). IsClosing (v.local).log tx home (closing (has_standing (v.local).log tx) c.args.one_shard tx home (undecided_of v.local tx)) c.write_closing.result) c.self.view_is
    (subst (λ (rs : List LogRecord). IsClosing l.log tx home rs c.write_closing.result) plan c.write_closing.ensures.written)

pub returns-clause-room : goal.returns-clause-room
returns-clause-room g c =
    let s = c.self.inside in let tx = c.args.tx in let home = c.args.home in let one = c.args.one_shard in let now = c.write_closing.new.buffer in let deps = c.write_closing.new.deps in
    let l : Local = record { records = g.S.Store.records s.store; locks = g.L.Locks.rows s.locks; parts = s.parts.entries; pairs = s.deps.pairs; log = s.buffer.records; epoch = s.epoch } in
    let active : stage_of l tx ≡ Some Active = subst (λ (v : TxState). stage_of v.local tx ≡ Some Active) (sym c.self.view_is) c.requires.active in
    let plan : planned tx home c.args.plan ≡ closing (has_standing l.log tx) one tx home (undecided_of l tx) = subst (λ (v : TxState). planned tx home c.args.plan ≡ closing (has_standing (v.local).log tx) one tx home (undecided_of v.local tx)) (sym c.self.view_is) c.requires.plan in
    let log : now.records ≡ l.log ++ closing (has_standing l.log tx) one tx home (undecided_of l tx) = c.write_closing.ensures.records ∙ ap (λ (rs : List LogRecord). s.buffer.records ++ rs) plan in
    let view : TxState = record { shard = s.shard; local = l; durable = s.buffer.durable; taken = s.buffer.taken; room = s.buffer.room; pairs_room = s.deps.room } in
    let m : Local = record { records = g.S.Store.records s.store; locks = g.L.Locks.rows c.close_part.new.self; parts = c.close_in.new.parts.entries; pairs = deps.pairs; log = now.records; epoch = s.epoch } in
    let left : TxState = record { shard = s.shard; local = m; durable = now.durable; taken = now.taken; room = now.room; pairs_room = deps.room } in
    let fewer = closed_fewer l tx home one active in let spent = c.write_closing.ensures.room.0 in
    let inside : SpendsSpare 1 view left = spends_like 1 view left (close_part tx home one l) c.close_in.ensures log (omega (arith, fewer, spent)) in
    subst (λ (v : TxState). SpendsSpare 1 v left) c.self.view_is inside

pub returns-clause-spent : goal.returns-clause-spent
returns-clause-spent g c =
    let s = c.self.inside in let tx = c.args.tx in let home = c.args.home in let one = c.args.one_shard in let now = c.write_closing.new.buffer in let deps = c.write_closing.new.deps in
    let l : Local = record { records = g.S.Store.records s.store; locks = g.L.Locks.rows s.locks; parts = s.parts.entries; pairs = s.deps.pairs; log = s.buffer.records; epoch = s.epoch } in
    let active : stage_of l tx ≡ Some Active = subst (λ (v : TxState). stage_of v.local tx ≡ Some Active) (sym c.self.view_is) c.requires.active in
    let plan : planned tx home c.args.plan ≡ closing (has_standing l.log tx) one tx home (undecided_of l tx) = subst (λ (v : TxState). planned tx home c.args.plan ≡ closing (has_standing (v.local).log tx) one tx home (undecided_of v.local tx)) (sym c.self.view_is) c.requires.plan in
    let log : now.records ≡ l.log ++ closing (has_standing l.log tx) one tx home (undecided_of l tx) = c.write_closing.ensures.records ∙ ap (λ (rs : List LogRecord). s.buffer.records ++ rs) plan in
    let view : TxState = record { shard = s.shard; local = l; durable = s.buffer.durable; taken = s.buffer.taken; room = s.buffer.room; pairs_room = s.deps.room } in
    let m : Local = record { records = g.S.Store.records s.store; locks = g.L.Locks.rows c.close_part.new.self; parts = c.close_in.new.parts.entries; pairs = deps.pairs; log = now.records; epoch = s.epoch } in
    let left : TxState = record { shard = s.shard; local = m; durable = now.durable; taken = now.taken; room = now.room; pairs_room = deps.room } in
    let more = closing (has_standing l.log tx) one tx home (undecided_of l tx) in
    let written : s.buffer.room ≡ now.room + length more = subst (λ (rs : List LogRecord). s.buffer.room ≡ now.room + length rs) plan c.write_closing.ensures.spent.0 in
    let fewer = closed_fewer l tx home one active in let back = closed_back l tx home one active in
    let inside : UsesSpare (length more) view left = uses_like (length more) view left (close_part tx home one l) c.close_in.ensures log (omega (arith, fewer, back, written)) in
    subst (λ (v : TxState). UsesSpare (length (closing (has_standing (v.local).log tx) one tx home (undecided_of v.local tx))) v left) c.self.view_is inside

-- Noting changes no transaction: what the operation tells is told of those before it.
use Rattle.std.proofs.Common.{◌≡◌, ◌≤◌, refl, sym, ap, subst, ◌∙◌, arith}
use Rattle.clv_base.specs.OneShard.{op_reply, purge}
use Rattle.tx_table.specs.Held.{Candidates}
use Rattle.txn_core.specs.State.{TxState, IsSameBut}
use Rattle.txn_core.specs.Replies.{Replies}
use Rattle.txn_core.specs.Sound.{IsSound, KeepsSpare}
use Rattle.shard_core.proofs.operating.op_noted.Goals as goal

pub returns-in-Err-clause-err : goal.returns-in-Err-clause-err
returns-in-Err-clause-err g c = let s = c.args.transactions.now in subst (λ (t : TxState). IsSameBut s s.local t) (sym c.note_dying.ensures.same) refl

pub returns-in-Err-clause-clear : goal.returns-in-Err-clause-clear
returns-in-Err-clause-clear g c = ap (λ (d : Candidates). d.txs) c.in-Err.ensures.err ∙ c.requires.none

pub returns-in-Err-clause-places : goal.returns-in-Err-clause-places
returns-in-Err-clause-places g c = let same = ap (λ (d : Candidates). d.limit) c.in-Err.ensures.err in omega (arith, same)

pub returns-in-Err-clause-room : goal.returns-in-Err-clause-room
returns-in-Err-clause-room g c = subst (λ (t : TxState). KeepsSpare c.args.transactions.now t) (sym c.note_dying.ensures.same) (omega arith)

pub returns-in-Err-clause-pairs_room : goal.returns-in-Err-clause-pairs_room
returns-in-Err-clause-pairs_room g c = let same = ap (λ (t : TxState). t.pairs_room) c.note_dying.ensures.same in omega (arith, same)

pub returns-in-Err-clause-sound : goal.returns-in-Err-clause-sound
returns-in-Err-clause-sound g c = subst (λ (t : TxState). IsSound t.local t.room) (sym c.note_dying.ensures.same) c.kept.ensures.sound

pub returns-in-Err-clause-purged : goal.returns-in-Err-clause-purged
returns-in-Err-clause-purged g c = subst (λ (t : TxState). purge t.local ≡ t.local) (sym c.note_dying.ensures.same) c.kept.ensures.purged

pub returns-in-Err-op_of-clause-err : goal.returns-in-Err-op_of-clause-err
returns-in-Err-op_of-clause-err g c = subst (λ (s : TxState). IsSameBut s s.local c.op_of.new.self) c.note_dying.ensures.same c.in-Err-op_of.ensures.err

pub returns-in-Err-op_of-clause-clear : goal.returns-in-Err-op_of-clause-clear
returns-in-Err-op_of-clause-clear g c = ap (λ (d : Candidates). d.txs) c.clear.ensures

pub returns-in-Err-op_of-clause-places : goal.returns-in-Err-op_of-clause-places
returns-in-Err-op_of-clause-places g c =
    let same = ap (λ (d : Candidates). d.limit) c.clear.ensures in let more = c.in-Ok.ensures.limit in omega (arith, same, more)

pub returns-in-Err-op_of-clause-room : goal.returns-in-Err-op_of-clause-room
returns-in-Err-op_of-clause-room g c = subst (λ (s : TxState). KeepsSpare s c.op_of.new.self) c.note_dying.ensures.same c.op_of.ensures.room

pub returns-in-Err-op_of-clause-pairs_room : goal.returns-in-Err-op_of-clause-pairs_room
returns-in-Err-op_of-clause-pairs_room g c = subst (λ (s : TxState). s.pairs_room ≤ c.op_of.new.self.pairs_room) c.note_dying.ensures.same c.op_of.ensures.pairs_room

pub returns-clause-ok : goal.returns-clause-ok
returns-clause-ok g c =
    let a = c.args in subst (λ (s : TxState). Replies (op_reply s.shard s.local a.tx a.birth a.seen a.op.now) s c.in-Ok-op_of.reply c.op_of.new.self) c.note_dying.ensures.same c.in-Ok-op_of.ensures.ok

pub returns-clause-stay : goal.returns-clause-stay
returns-clause-stay g c = (c.note_dying.new.candidates, c.in-Ok.ensures.txs, c.keep_noted.ensures.stay)

pub returns-clause-limit : goal.returns-clause-limit
returns-clause-limit g c = c.keep_noted.ensures.limit ∙ c.in-Ok.ensures.limit

pub returns-clause-places : goal.returns-clause-places
returns-clause-places g c = let same = c.keep_noted.ensures.limit in let more = c.in-Ok.ensures.limit in omega (arith, same, more)

pub returns-clause-room : goal.returns-clause-room
returns-clause-room g c = subst (λ (s : TxState). KeepsSpare s c.op_of.new.self) c.note_dying.ensures.same c.op_of.ensures.room

pub returns-clause-pairs_room : goal.returns-clause-pairs_room
returns-clause-pairs_room g c = subst (λ (s : TxState). s.pairs_room ≤ c.op_of.new.self.pairs_room) c.note_dying.ensures.same c.op_of.ensures.pairs_room

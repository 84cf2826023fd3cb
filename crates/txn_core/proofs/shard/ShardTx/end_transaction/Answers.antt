-- An END neither writes nor undoes, and settles nobody.
use Rattle.std.proofs.Common.{List, [], ◌∷◌, ◌++◌, refl, sym, ap, subst, ◌∙◌, arith}
use Rattle.clv_base.specs.declared.logs.LogRecord.{LogRecord}
use Rattle.clv_base.specs.declared.logs.LogRecord.TheVariants.{End}
use Rattle.clv_base.specs.Logs.{commit_lsn}
use Rattle.clv_base.specs.State.{Local}
use Rattle.txn_core.specs.State.{TxState}
use Rattle.txn_core.specs.Sound.{HasSpare, SpendsSpare, UsesSpare}
use Rattle.txn_core.proofs.Settling.{commit_lsn-more}
use Rattle.txn_core.proofs.Undoing.{local_same, sound_more}
use Rattle.txn_core.proofs.Closed.{plain_end, more_sound, more_owed, spends_like, uses_like}
use Rattle.txn_core.proofs.Crowds.{few_same, few_grows}
use Rattle.txn_core.proofs.Spelling.{spelled_same, spelled_more}
use Rattle.txn_core.proofs.shard.ShardTx.end_transaction.Goals as goal

pub invariant_of-self : goal.invariant_of-self
invariant_of-self g c =
    let s = c.self.inside in let more = End c.args.tx ∷ [] in let now = c.append_reserved.new.self in
    let l : Local = record { records = g.S.Store.records s.store; locks = g.L.Locks.rows s.locks; parts = s.parts.entries; pairs = s.deps.pairs; log = s.buffer.records; epoch = s.epoch } in
    let view : TxState = record { shard = s.shard; local = l; durable = s.buffer.durable; taken = s.buffer.taken; room = s.buffer.room; pairs_room = s.deps.room } in
    let spare : HasSpare 1 view = subst (λ (v : TxState). HasSpare 1 v) (sym c.self.view_is) c.requires.room in
    let spent = c.append_reserved.ensures.room in
    let left = local_same _ _ _ _ _ (record l { log = l.log ++ more }) refl refl refl refl c.append_reserved.ensures.records in
    record {
      settled = λ t. c.self.invariant.settled t ∙ sym (commit_lsn-more t l.log more refl) ∙ sym (ap (λ (log : List LogRecord). commit_lsn log t) c.append_reserved.ensures.records);
      sound = sound_more (record l { log = l.log ++ more }) _ now.room now.room left (omega arith)
          (more_sound l more s.buffer.room now.room (plain_end c.args.tx) c.self.invariant.sound (omega (arith, spare, spent)));
      ghosts = c.self.invariant.ghosts;
      few = few_same (l.log ++ more) now.records l.pairs l.pairs c.append_reserved.ensures.records refl (few_grows l.log more l.pairs c.self.invariant.few);
      spelled = spelled_same _ (record l { log = l.log ++ more }) left (spelled_more (End c.args.tx) l c.requires.spelled c.self.invariant.spelled);
    }

pub returns-clause-room : goal.returns-clause-room
returns-clause-room g c =
    let s = c.self.inside in let more = End c.args.tx ∷ [] in let now = c.append_reserved.new.self in
    let l : Local = record { records = g.S.Store.records s.store; locks = g.L.Locks.rows s.locks; parts = s.parts.entries; pairs = s.deps.pairs; log = s.buffer.records; epoch = s.epoch } in
    let view : TxState = record { shard = s.shard; local = l; durable = s.buffer.durable; taken = s.buffer.taken; room = s.buffer.room; pairs_room = s.deps.room } in
    let m : Local = record l { pairs = s.deps.pairs; log = now.records } in
    let left : TxState = record { shard = s.shard; local = m; durable = now.durable; taken = now.taken; room = now.room; pairs_room = s.deps.room } in
    let same = more_owed l more (plain_end c.args.tx) in let spent = c.append_reserved.ensures.room in
    let inside : SpendsSpare 1 view left = spends_like 1 view left (record l { log = l.log ++ more }) refl c.append_reserved.ensures.records (omega (arith, same, spent)) in
    subst (λ (v : TxState). SpendsSpare 1 v left) c.self.view_is inside

pub returns-clause-spent : goal.returns-clause-spent
returns-clause-spent g c =
    let s = c.self.inside in let more = End c.args.tx ∷ [] in let now = c.append_reserved.new.self in
    let l : Local = record { records = g.S.Store.records s.store; locks = g.L.Locks.rows s.locks; parts = s.parts.entries; pairs = s.deps.pairs; log = s.buffer.records; epoch = s.epoch } in
    let view : TxState = record { shard = s.shard; local = l; durable = s.buffer.durable; taken = s.buffer.taken; room = s.buffer.room; pairs_room = s.deps.room } in
    let m : Local = record l { pairs = s.deps.pairs; log = now.records } in
    let left : TxState = record { shard = s.shard; local = m; durable = now.durable; taken = now.taken; room = now.room; pairs_room = s.deps.room } in
    let same = more_owed l more (plain_end c.args.tx) in let spent = c.append_reserved.ensures.room in
    let inside : UsesSpare 1 view left = uses_like 1 view left (record l { log = l.log ++ more }) refl c.append_reserved.ensures.records (omega (arith, same, spent)) in
    subst (λ (v : TxState). UsesSpare 1 v left) c.self.view_is inside

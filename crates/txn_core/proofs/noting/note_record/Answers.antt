-- Of a COMMIT its transaction is put in first and then those that depend on it.
use Rattle.std.proofs.Common.{◌||◌, subst, sym, ap, ◌∙◌}
use Rattle.clv_base.specs.declared.logs.LogRecord.TheVariants.{Commit}
use Rattle.clv_base.specs.Orders.{tx_in, tx_same}
use Rattle.clv_base.proofs.SameNames.{tx_self, or_left, or_right}
use Rattle.protocol_laws.specs.UndoLaws.{is_pair}
use Rattle.tx_table.specs.Held.{HasRoomBy}
use Rattle.tx_table.proofs.Laws.{room_then, insert_in}
use Rattle.txn_core.specs.Landed.{concerns}
use Rattle.txn_core.proofs.Joins.{swapped}
use Rattle.txn_core.proofs.noting.note_record.Goals as goal

pub insert_all-requires : goal.insert_all-requires
insert_all-requires c =
    let pairs = c.args.deps.now.pairs in let tx = c.in-Commit.tx in
    let room : HasRoomBy (concerns pairs (Commit tx c.in-Commit.parts)) c.args.candidates.now = subst (λ r. HasRoomBy (concerns pairs r) c.args.candidates.now) c.in-Commit.is c.requires in
    room_then (concerns pairs (Commit tx c.in-Commit.parts)) tx c.args.candidates.now c.insert.new.self c.successors.result.now room
    (or_left (tx_same tx tx) (is_pair pairs tx tx) (tx_self tx)) (ap (λ z. z.txs) c.insert.ensures) (ap (λ z. z.limit) c.insert.ensures)
    (λ x i. or_right (tx_same tx x) (is_pair pairs x tx) (sym (c.successors.ensures x) ∙ i))

pub returns-in-Commit-clause-txs : goal.returns-in-Commit-clause-txs
returns-in-Commit-clause-txs c =
    let pairs = c.args.deps.now.pairs in let tx = c.in-Commit.tx in let txs = c.args.candidates.now.txs in
    λ x. c.insert_all.ensures.txs x
    ∙ ap (λ b. b || tx_in x c.insert.new.self.txs) (c.successors.ensures x)
    ∙ ap (λ z. is_pair pairs x tx || tx_in x z.txs) c.insert.ensures
    ∙ ap (λ b. is_pair pairs x tx || b) (insert_in tx x txs)
    ∙ swapped (is_pair pairs x tx) (tx_same tx x) (tx_in x txs)
    ∙ sym (ap (λ r. concerns pairs r x || tx_in x txs) c.in-Commit.is)

pub returns-in-Prepare-clause-txs : goal.returns-in-Prepare-clause-txs
returns-in-Prepare-clause-txs c =
    let pairs = c.args.deps.now.pairs in let tx = c.in-Prepare.tx in let txs = c.args.candidates.now.txs in
    λ x. ap (λ z. tx_in x z.txs) c.insert-in-Prepare.ensures ∙ insert_in tx x txs ∙ sym (ap (λ r. concerns pairs r x || tx_in x txs) c.in-Prepare.is)

pub returns-in-Clr-clause-txs : goal.returns-in-Clr-clause-txs
returns-in-Clr-clause-txs c =
    let pairs = c.args.deps.now.pairs in let tx = c.in-Clr.tx in let txs = c.args.candidates.now.txs in
    λ x. ap (λ z. tx_in x z.txs) c.insert-in-Clr.ensures ∙ insert_in tx x txs ∙ sym (ap (λ r. concerns pairs r x || tx_in x txs) c.in-Clr.is)

pub returns-in-Unadd-clause-txs : goal.returns-in-Unadd-clause-txs
returns-in-Unadd-clause-txs c =
    let pairs = c.args.deps.now.pairs in let tx = c.in-Unadd.tx in let txs = c.args.candidates.now.txs in
    λ x. ap (λ z. tx_in x z.txs) c.insert-in-Unadd.ensures ∙ insert_in tx x txs ∙ sym (ap (λ r. concerns pairs r x || tx_in x txs) c.in-Unadd.is)

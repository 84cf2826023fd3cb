-- First its own transaction, then whom the ruling touches: all are among the doomed.
use Rattle.std.proofs.Common.{◌||◌, sym, ap, ◌∙◌}
use Rattle.clv_base.specs.Orders.{tx_in, tx_same}
use Rattle.clv_base.specs.Undo.{doomed_by}
use Rattle.tx_table.proofs.Laws.{room_own, insert_in}
use Rattle.due_step.specs.Noting.{ruled_touches, touches}
use Rattle.due_step.proofs.Noted.{room_more, own_doomed, ruled_doomed}
use Rattle.due_step.proofs.noting.note_touched.Goals as goal
use Rattle.law_base.proofs.Bools.{or_regroup as joined}

pub insert-requires : goal.insert-requires
insert-requires g c =
    let l = c.args.transactions.now.local in let tx = c.args.tx in
    room_own (λ t. tx_in t (doomed_by l tx)) tx c.args.candidates.now c.requires (own_doomed l tx)

pub note_ruled-requires : goal.note_ruled-requires
note_ruled-requires g c =
    let l = c.args.transactions.now.local in let tx = c.args.tx in
    room_more (λ t. tx_in t (doomed_by l tx)) (ruled_touches l tx c.in-Ruling.ruling) tx c.args.candidates.now c.insert.new.self c.requires (own_doomed l tx)
    (ap (λ z. z.txs) c.insert.ensures) (ap (λ z. z.limit) c.insert.ensures) (ruled_doomed l tx c.in-Ruling.ruling)

pub returns-in-Commit-clause-txs : goal.returns-in-Commit-clause-txs
returns-in-Commit-clause-txs g c =
    let l = c.args.transactions.now.local in let tx = c.args.tx in let txs = c.args.candidates.now.txs in
    λ x. ap (λ z. tx_in x z.txs) c.insert.ensures ∙ insert_in tx x txs ∙ sym (ap (λ d. touches l tx d x || tx_in x txs) c.in-Commit.is)

pub returns-in-Vote-clause-txs : goal.returns-in-Vote-clause-txs
returns-in-Vote-clause-txs g c =
    let l = c.args.transactions.now.local in let tx = c.args.tx in let txs = c.args.candidates.now.txs in
    λ x. ap (λ z. tx_in x z.txs) c.insert.ensures ∙ insert_in tx x txs ∙ sym (ap (λ d. touches l tx d x || tx_in x txs) c.in-Vote.is)

pub returns-in-Ruling-clause-txs : goal.returns-in-Ruling-clause-txs
returns-in-Ruling-clause-txs g c =
    let l = c.args.transactions.now.local in let tx = c.args.tx in let txs = c.args.candidates.now.txs in let r = c.in-Ruling.ruling in
    λ x. c.note_ruled.ensures.txs x ∙ ap (λ z. ruled_touches l tx r x || tx_in x z.txs) c.insert.ensures ∙ ap (λ b. ruled_touches l tx r x || b) (insert_in tx x txs)
    ∙ joined (ruled_touches l tx r x) (tx_same tx x) (tx_in x txs) ∙ sym (ap (λ d. touches l tx d x || tx_in x txs) c.in-Ruling.is)

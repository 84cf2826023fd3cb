use Rattle.std.proofs.Common.{◌≤◌, length, ap, ◌∙◌, arith}
use Rattle.std.proofs.lemmas.List.{take_all}
use Rattle.clv_base.specs.declared.names.TxId.{TxId}
use Rattle.clv_base.specs.Orders.{tx_in}
use Rattle.tx_table.proofs.Reading.{reserved_next}
use Rattle.tx_table.proofs.lists.TxLists.reserve_each.Goals as goal

nobody : TxId
nobody = record { run = 0; session = 0; serial = 0 }

pub loop-tx-preserved : goal.loop-tx-preserved
unfolding nobody
loop-tx-preserved c =
    let i = c.loop-tx.tx-index in let txs = c.args.txs.now in let before = c.loop-tx.invariant in let now = c.reserve.new.self in
    record {
      done = reserved_next txs i nobody c.loop-tx-test.true c.args.count c.loop-tx.self.rooms now.rooms before.done c.reserve.ensures.room c.in_ok-reserve.ensures.ok;
      lists = λ t. c.reserve.ensures.lists t ∙ before.lists t;
      room = λ t. let one = c.reserve.ensures.room t in let all = before.room t in omega (arith, one, all);
    }

pub returns-clause-ok : goal.returns-clause-ok
returns-clause-ok c = λ t i. let txs = c.args.txs.now in let n = c.loop-tx.tx-index in let over : length txs ≤ n = omega arith in
    c.loop-tx.invariant.done t (ap (tx_in t) (take_all n txs over) ∙ i)

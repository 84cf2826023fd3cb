use Rattle.std.proofs.Common.{◌≤◌, List, length, sym, ◌∙◌, arith}
use Rattle.std.proofs.lemmas.List.{at_drop_all}
use Rattle.clv_base.specs.declared.names.TxId.{TxId}
use Rattle.clv_base.specs.Orders.{tx_get}
use Rattle.cascade_undo.specs.Counts.{settled_through}
use Rattle.cascade_undo.proofs.Counting.{settled_next}
use Rattle.cascade_undo.proofs.waiting.settle_rows.Goals as goal

nobody : TxId
nobody = record { run = 0; session = 0; serial = 0 }

pub loop-tx-preserved : goal.loop-tx-preserved
unfolding nobody
loop-tx-preserved c =
    let lsn = c.args.lsn in let i = c.loop-tx.tx-index in let xs = c.args.succs.now in let rows = c.loop-tx.rows.rows in
    record {
      rows = λ t. settled_next lsn xs i nobody c.loop-tx-test.true t (tx_get t rows) (tx_get t c.settle_one.new.rows.rows) (c.settle_one.ensures.rows t) ∙ c.loop-tx.invariant.rows t;
      room = c.settle_one.ensures.room ∙ c.loop-tx.invariant.room;
    }

pub returns-clause-rows : goal.returns-clause-rows
returns-clause-rows c = λ t.
    let lsn = c.args.lsn in let xs = c.args.succs.now in let i = c.loop-tx.tx-index in let rows = c.loop-tx.rows.rows in let over : length xs ≤ i = omega arith in
    sym (at_drop_all (λ (l : List TxId). settled_through lsn l t (tx_get t rows)) xs i over) ∙ c.loop-tx.invariant.rows t

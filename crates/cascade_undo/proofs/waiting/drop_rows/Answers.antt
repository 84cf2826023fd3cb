use Rattle.std.proofs.Common.{◌≤◌, cond, None, List, length, sym, ◌∙◌, arith}
use Rattle.std.proofs.lemmas.List.{at_drop_all}
use Rattle.clv_base.specs.declared.names.TxId.{TxId}
use Rattle.clv_base.specs.Orders.{tx_in, tx_get}
use Rattle.cascade_undo.proofs.Counting.{dropped_next}
use Rattle.cascade_undo.proofs.waiting.drop_rows.Goals as goal

nobody : TxId
nobody = record { run = 0; session = 0; serial = 0 }

pub loop-tx-preserved : goal.loop-tx-preserved
unfolding nobody
loop-tx-preserved c =
    let i = c.loop-tx.tx-index in let set = c.args.set.now in let rows = c.loop-tx.rows.rows in
    record {
      rows = λ t. dropped_next set i nobody c.loop-tx-test.true t (tx_get t rows) (tx_get t c.remove.new.self.rows) (c.remove.ensures.rows t) ∙ c.loop-tx.invariant.rows t;
      room = let one = c.remove.ensures.room in let all = c.loop-tx.invariant.room in omega (arith, one, all);
    }

pub returns-clause-rows : goal.returns-clause-rows
returns-clause-rows c = λ t.
    let set = c.args.set.now in let i = c.loop-tx.tx-index in let rows = c.loop-tx.rows.rows in let over : length set ≤ i = omega arith in
    sym (at_drop_all (λ (l : List TxId). cond (tx_in t l) None (tx_get t rows)) set i over) ∙ c.loop-tx.invariant.rows t

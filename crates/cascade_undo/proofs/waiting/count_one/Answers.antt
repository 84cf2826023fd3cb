use Rattle.std.proofs.Common.{cond, ap, ◌∙◌}
use Rattle.std.specs.Prelude.{unwrap_or, None, Option}
use Rattle.clv_base.specs.Orders.{tx_same, tx_get}
use Rattle.cascade_undo.specs.declared.waiting.Waiting.{Waiting}
use Rattle.cascade_undo.specs.Counts.{as_row, row_at, with_one}
use Rattle.cascade_undo.proofs.Counting.{row_set}
use Rattle.cascade_undo.proofs.waiting.count_one.Goals as goal

pub returns-clause-rows : goal.returns-clause-rows
returns-clause-rows c = λ t. let tx = c.args.tx in let rows = c.args.rows.now.rows in
    ap (λ (o : Option Waiting). unwrap_or o (as_row 0 None)) (c.set.ensures.rows t) ∙ row_set (tx_same tx t) c.one_more.result (tx_get t rows)
    ∙ ap (λ (w : Waiting). cond (tx_same tx t) w (row_at t rows)) (c.one_more.ensures ∙ ap (with_one c.args.commit) c.row_of-row.ensures)

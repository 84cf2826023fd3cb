use Rattle.std.proofs.Common.{◌≡◌, Some, refl, sym, ap, ◌∙◌}
use Rattle.clv_base.specs.Orders.{tx_get}
use Rattle.cascade_undo.specs.Counts.{settled_row}
use Rattle.cascade_undo.proofs.Counting.{changed_here, none_here}
use Rattle.cascade_undo.proofs.waiting.settle_one.Goals as goal

pub returns-in-Some-clause-rows : goal.returns-in-Some-clause-rows
returns-in-Some-clause-rows c = λ t. let rows = c.args.rows.now.rows in let lsn = c.args.lsn in
    let there : tx_get c.args.tx rows ≡ Some c.in-Some.row = sym c.get.ensures ∙ c.in-Some.is in
    c.replace.ensures.rows t ∙ changed_here (settled_row lsn) c.args.tx t rows (Some c.one_settled.result) (ap Some c.one_settled.ensures ∙ ap (settled_row lsn) (sym there))

pub returns-in-None-clause-rows : goal.returns-in-None-clause-rows
returns-in-None-clause-rows c = λ t. none_here (settled_row c.args.lsn) c.args.tx t c.args.rows.now.rows refl (sym c.get.ensures ∙ c.in-None.is)

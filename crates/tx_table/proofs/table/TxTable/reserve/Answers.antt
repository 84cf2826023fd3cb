use Rattle.std.proofs.Common.{sym, ◌∙◌, ap}
use Rattle.clv_base.specs.Orders.{tx_get}
use Rattle.tx_table.specs.Keys.{key_of}
use Rattle.tx_table.proofs.Lookups.{tx_get-by_name}
use Rattle.tx_table.proofs.table.TxTable.reserve.Goals as goal

pub returns-clause-rows : goal.returns-clause-rows
returns-clause-rows g c = λ t.
    tx_get-by_name t c.reserve.new.self.entries ∙ c.reserve.ensures.entries.2 (key_of t)
    ∙ sym (tx_get-by_name t c.self.inside.rows.entries) ∙ ap (λ v. tx_get t v.rows) c.self.view_is

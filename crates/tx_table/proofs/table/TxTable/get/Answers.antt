use Rattle.std.proofs.Common.{sym, ◌∙◌, ap}
use Rattle.std.specs.Map.{lookup}
use Rattle.clv_base.specs.Orders.{tx_get}
use Rattle.tx_table.proofs.Lookups.{same_key, tx_get-by_name}
use Rattle.tx_table.proofs.table.TxTable.get.Goals as goal

pub returns : goal.returns
returns g c =
    c.copied.ensures ∙ c.get.ensures.value ∙ ap (λ k. lookup (same_key k) c.self.inside.rows.entries) c.new.ensures
    ∙ sym (tx_get-by_name c.args.tx c.self.inside.rows.entries) ∙ ap (λ v. tx_get c.args.tx v.rows) c.self.view_is

use Rattle.std.proofs.Common.{sym, ◌∙◌, ap, cond, None}
use Rattle.std.specs.Map.{lookup}
use Rattle.clv_base.specs.Orders.{tx_get}
use Rattle.tx_table.specs.Keys.{key_of}
use Rattle.tx_table.proofs.Lookups.{same_key, tx_same-key, tx_get-by_name}
use Rattle.tx_table.proofs.table.TxTable.remove.Goals as goal

pub returns-clause-rows : goal.returns-clause-rows
returns-clause-rows g c = λ t. let rows = c.self.inside.rows.entries in
    tx_get-by_name t c.remove.new.self.entries ∙ c.remove.ensures.updates.0 (key_of t)
    ∙ ap (λ k. cond (same_key k (key_of t)) None (lookup (same_key (key_of t)) rows)) c.new.ensures
    ∙ ap (λ b. cond b None (lookup (same_key (key_of t)) rows)) (sym (tx_same-key c.args.tx (key_of t)))
    ∙ ap (cond _ None) (sym (tx_get-by_name t rows) ∙ ap (λ v. tx_get t v.rows) c.self.view_is)

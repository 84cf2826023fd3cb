use Rattle.std.proofs.Common.{◌||◌, cond, sym, ap, ◌∙◌}
use Rattle.clv_base.specs.Orders.{tx_in, tx_same}
use Rattle.law_base.proofs.Names.{in_inserted}
use Rattle.tx_table.proofs.index.TxIndex.insert_if.Goals as goal

pub returns-in_ok-insert-clause-members : goal.returns-in_ok-insert-clause-members
returns-in_ok-insert-clause-members c = λ t.
    let same = tx_same c.args.tx t in let was = tx_in t c.self.inside.txs.keys in
    ap (tx_in t) c.in_ok-insert.ensures.keys ∙ in_inserted c.args.tx t c.self.inside.txs.keys ∙ ap (λ b. cond same (b || was) was) (sym c.if-passes.true)
    ∙ ap (λ xs. cond same (c.args.passes || tx_in t xs) (tx_in t xs)) c.self.view_is

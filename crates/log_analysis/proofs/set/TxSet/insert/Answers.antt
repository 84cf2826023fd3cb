use Rattle.std.proofs.Common.{true, cond, ap, ◌∙◌}
use Rattle.clv_base.specs.Orders.{tx_same, tx_in}
use Rattle.law_base.proofs.Names.{in_inserted}
use Rattle.log_analysis.proofs.set.TxSet.insert.Goals as goal

pub returns-clause-members : goal.returns-clause-members
returns-clause-members c = λ t.
    ap (tx_in t) c.in_ok-insert.ensures.keys ∙ in_inserted c.args.tx t c.self.inside.members.keys ∙ ap (λ xs. cond (tx_same c.args.tx t) true (tx_in t xs)) c.self.view_is

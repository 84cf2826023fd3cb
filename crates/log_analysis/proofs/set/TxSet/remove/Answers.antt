use Rattle.std.proofs.Common.{false, cond, sym, ap, ◌∙◌}
use Rattle.clv_base.specs.Orders.{tx_same, tx_in}
use Rattle.law_base.proofs.Names.{in_flipped}
use Rattle.log_analysis.proofs.set.TxSet.remove.Goals as goal

pub returns-clause-members : goal.returns-clause-members
returns-clause-members c = λ t.
    sym (in_flipped t c.remove.new.self.keys) ∙ c.remove.ensures.updates.0 t ∙ ap (λ b. cond (tx_same c.args.tx t) false b) (in_flipped t c.self.inside.members.keys)
    ∙ ap (λ xs. cond (tx_same c.args.tx t) false (tx_in t xs)) c.self.view_is

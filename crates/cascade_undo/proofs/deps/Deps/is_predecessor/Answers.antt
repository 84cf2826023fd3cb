use Rattle.std.proofs.Common.{sym, ◌∙◌, ap, subst}
use Rattle.std.specs.List.Sorted.{IsStrictlySortedBy}
use Rattle.clv_base.specs.Orders.{tx_in, pair_cmp}
use Rattle.clv_base.specs.Facts.{predecessors_of}
use Rattle.cascade_undo.specs.Dependencies.{Dependencies}
use Rattle.cascade_undo.proofs.Listed.{listed_preds}
use Rattle.cascade_undo.proofs.deps.Deps.is_predecessor.Goals as goal

pub returns-clause-is : goal.returns-clause-is
returns-clause-is c =
    c.contains.ensures ∙ ap (tx_in c.args.pred) (c.get.ensures.txs ∙ sym (listed_preds c.self.inside.preds.lists c.args.tx c.get.ensures.rising))
    ∙ ap (λ (v : Dependencies). tx_in c.args.pred (predecessors_of v.pairs c.args.tx)) c.self.view_is

pub returns-clause-rising : goal.returns-clause-rising
returns-clause-rising c = subst (λ (v : Dependencies). IsStrictlySortedBy pair_cmp v.pairs) c.self.view_is c.self.invariant.0.pairs_rise

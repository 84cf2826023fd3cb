-- The pairs are the same, turned round.
use Rattle.std.proofs.Common.{sym, ap, ◌∙◌}
use Rattle.clv_base.specs.Orders.{tx_in}
use Rattle.protocol_laws.specs.UndoLaws.{is_pair}
use Rattle.cascade_undo.specs.Dependencies.{Dependencies}
use Rattle.cascade_undo.proofs.Listed.{is_pair-in}
use Rattle.cascade_undo.proofs.deps.Deps.successors.Goals as goal

pub returns : goal.returns
returns c = λ t.
    ap (tx_in t) c.get.ensures.txs ∙ sym (is_pair-in c.self.inside.succs.lists c.args.pred t) ∙ c.self.invariant.0.turned_round t c.args.pred ∙ ap (λ (d : Dependencies). is_pair d.pairs t c.args.pred) c.self.view_is

use Rattle.std.proofs.Common.{sym, ◌∙◌, ap}
use Rattle.clv_base.specs.Facts.{predecessors_of}
use Rattle.cascade_undo.specs.Dependencies.{Dependencies}
use Rattle.cascade_undo.proofs.Listed.{listed_preds}
use Rattle.cascade_undo.proofs.deps.Deps.predecessors.Goals as goal

pub returns : goal.returns
returns c =
    c.get.ensures.txs ∙ sym (listed_preds c.self.inside.preds.lists c.args.tx c.get.ensures.rising) ∙ ap (λ (v : Dependencies). predecessors_of v.pairs c.args.tx) c.self.view_is

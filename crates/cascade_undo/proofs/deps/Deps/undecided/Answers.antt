use Rattle.std.proofs.Common.{length, ◌∙◌, ap}
use Rattle.cascade_undo.specs.declared.waiting.Waiting.{Waiting}
use Rattle.cascade_undo.specs.Dependencies.{Dependencies, undecided_by}
use Rattle.cascade_undo.proofs.deps.Deps.undecided.Goals as goal

pub returns : goal.returns
returns c =
    ap (λ (w : Waiting). w.undecided) (c.row_of.ensures ∙ c.self.invariant.0.counted c.args.tx) ∙ ap (λ (v : Dependencies). length (undecided_by v c.args.tx)) c.self.view_is

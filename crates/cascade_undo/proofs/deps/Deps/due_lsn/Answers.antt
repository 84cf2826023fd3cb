use Rattle.std.proofs.Common.{◌≡◌, ◌<◌, is_none, sym, ◌∙◌, ap, arith}
use Rattle.std.specs.List.{filter}
use Rattle.clv_base.specs.Orders.{tx_get}
use Rattle.clv_base.specs.Facts.{predecessors_of}
use Rattle.cascade_undo.specs.declared.waiting.Waiting.{Waiting}
use Rattle.cascade_undo.specs.Dependencies.{Dependencies, greatest_of, due_of}
use Rattle.cascade_undo.specs.Pairs.{pairs_in}
use Rattle.cascade_undo.specs.Counts.{open_among}
use Rattle.cascade_undo.proofs.Preceding.{due_with, due_without}
use Rattle.cascade_undo.proofs.deps.Deps.due_lsn.Goals as goal

pub returns-then-row-gt0 : goal.returns-then-row-gt0
returns-then-row-gt0 c = let commits = c.self.inside.commits.rows in let preds = predecessors_of (pairs_in c.self.inside.preds.lists) c.args.tx in
    let counted : c.row_of-row.result.undecided ≡ open_among commits preds = ap (λ (w : Waiting). w.undecided) (c.row_of-row.ensures ∙ c.self.invariant.0.counted c.args.tx) in
    let some : 0 < c.row_of-row.result.undecided = c.if-row-gt0.true in
    sym (due_without (filter (λ p. is_none (tx_get p commits)) preds) (greatest_of commits preds) (λ none. absurd (omega (arith, counted, none, some)))) ∙ ap (λ (v : Dependencies). due_of v c.args.tx) c.self.view_is

pub returns : goal.returns
returns c = let commits = c.self.inside.commits.rows in let preds = predecessors_of (pairs_in c.self.inside.preds.lists) c.args.tx in
    let row = c.row_of-row.ensures ∙ c.self.invariant.0.counted c.args.tx in
    let counted : c.row_of-row.result.undecided ≡ open_among commits preds = ap (λ (w : Waiting). w.undecided) row in
    let none : open_among commits preds ≡ 0 = omega (arith, counted, c.if-row-gt0.false) in
    ap (λ (w : Waiting). w.due) row ∙ sym (due_with (filter (λ p. is_none (tx_get p commits)) preds) (greatest_of commits preds) none) ∙ ap (λ (v : Dependencies). due_of v c.args.tx) c.self.view_is

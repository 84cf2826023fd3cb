use Rattle.std.proofs.Common.{sym, ◌∙◌, arith}
use Rattle.cluster_turns.proofs.notes.take_from.Goals as goal
use Rattle.cluster_turns.proofs.notes.take_from.Goals.{then-is_left, else-is_left}
use Rattle.std.proofs.lemmas.List.Filters.{FiltersInPlace-more_no, FiltersInPlace-more_set}

pub loop-place-preserved : goal.loop-place-preserved
loop-place-preserved c =
    elim c.if-is_left.branch [
      | then-is_left w ↦ rw (w.items-is, w.end-is) (FiltersInPlace-more_set c.loop-place.invariant (omega arith) (sym c.is_left.ensures ∙ w.if-is_left.true) c.index-note.ensures)
      | else-is_left w ↦ rw (w.items-is, w.end-is) (FiltersInPlace-more_no c.loop-place.invariant (omega arith) (sym c.is_left.ensures ∙ w.if-is_left.false) c.index-note.ensures)
    ]

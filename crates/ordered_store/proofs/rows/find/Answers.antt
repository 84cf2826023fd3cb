use Rattle.std.proofs.Common.{◌≡◌, ◌<◌, None, get_or, length, ap, ◌∙◌, arith}
use Rattle.std.proofs.lemmas.List.{get_or_default}
use Rattle.ordered_store.proofs.Rising.{rises_from}
use Rattle.ordered_store.proofs.Placed.{nothing_stands}
use Rattle.ordered_store.proofs.rows.find.Goals as goal
use Rattle.ordered_store.proofs.rows.find.Goals.{else-place-rows-via-then-place-rows+else-rows-place, else-place-rows-via-else-place-rows}

pub returns-else-place-rows-clause-absent : goal.returns-else-place-rows-clause-absent
returns-else-place-rows-clause-absent c = let rows = c.args.rows.now in let at = c.place_of-place.result in
    let differs : at < length rows → (get_or rows at (0, None)).0 ≡ c.args.key → ⊥ =
    elim c.else-place-rows.branch [
      | else-place-rows-via-then-place-rows+else-rows-place w ↦ λ l e. w.if-rows-place.false (ap (λ r. r.0) (get_or_default rows at w.index-rows-place.result (0, None) l) ∙ e)
      | else-place-rows-via-else-place-rows w ↦ λ l e. omega arith
    ] in
    record {
      place = c.place_of-place.ensures.place;
      within = c.place_of-place.ensures.within;
      absent = nothing_stands c.args.key rows at (0, None) (rises_from rows c.requires) c.place_of-place.ensures.place differs;
    }

use Rattle.std.proofs.lemmas.List.Filters.{FiltersInPlace}
use Rattle.cluster_turns.specs.Notes.{is_left}
use Rattle.cluster_turns.proofs.notes.take_from.Given as goal

abbrev pub invariant-loop-place : goal.invariant-loop-place
invariant-loop-place l = FiltersInPlace (is_left l.shard l.upto) l.initial.items.items l.items.items l.end l.place

use Rattle.std.proofs.Common.{◌∙◌}
use Rattle.ordered_store.proofs.Counted.{sorted_rise, found_row, absent_row}
use Rattle.ordered_store.proofs.counting.row_counting.Goals as goal

pub search-requires : goal.search-requires
search-requires g c = record { rising = sorted_rise c.args.rows.now c.requires }

pub returns-in-Ok-clause-found : goal.returns-in-Ok-clause-found
returns-in-Ok-clause-found g c = c.found.ensures ∙ found_row c.args.key c.args.rows.now c.in-Ok.at c.index-rows-at.result c.requires c.in-Ok.ensures.there.0 (c.in-Ok.ensures.there.1 c.index-rows-at.result)

pub returns-in-Err-clause-found : goal.returns-in-Err-clause-found
returns-in-Err-clause-found g c = absent_row c.args.key c.args.rows.now c.in-Err.field-0 c.in-Err.ensures.below c.in-Err.ensures.above

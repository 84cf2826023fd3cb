use Rattle.std.proofs.Common.{◌≡◌, suc, ◌-◌, sym, ◌∙◌, arith}
use Rattle.ordered_store.proofs.Rising.{rises_from, lows, count_below-lows}
use Rattle.ordered_store.proofs.Finding.{anchor_low, anchor_before}
use Rattle.ordered_store.proofs.rows.anchor_below.Goals as goal

pub returns-then-place-eq0 : goal.returns-then-place-eq0
returns-then-place-eq0 c = let rows = c.args.rows.now in
    anchor_low c.args.key rows (rises_from rows c.requires) (sym (count_below-lows c.args.key rows) ∙ (sym c.place_of-place.ensures.place ∙ c.if-place-eq0.true))

pub returns-else-place-eq0 : goal.returns-else-place-eq0
returns-else-place-eq0 c = let rows = c.args.rows.now in let before = c.place_of-place.result - 1 in
    let next : lows c.args.key rows ≡ suc before = let place = count_below-lows c.args.key rows in omega (arith, c.place_of-place.ensures.place, c.if-place-eq0.false) in
    anchor_before c.args.key before rows c.index-rows-place.result (rises_from rows c.requires) next (omega (arith, c.place_of-place.ensures.within))

use Rattle.std.proofs.Common.{◌∙◌, ◌≤◌, length, get_or, ap, arith}
use Rattle.std.specs.Ordering.{nat_cmp}
use Rattle.std.specs.FinMap.{is_sorted}
use Rattle.clv_base.specs.Needs.{found_at}
use Rattle.ordered_store.proofs.Chains.{sorted_among, lookup_among}
use Rattle.ordered_store.proofs.Splicing.{sized_at}
use Rattle.ordered_store.proofs.Counted.{cost_of_both}
use Rattle.ordered_store.proofs.counting.get_counting.Goals as goal

pub row_counting-requires : goal.row_counting-requires
row_counting-requires g c = let blocks = c.args.blocks.now in let b = c.index-blocks-slot.result in
    ap (is_sorted nat_cmp) c.deref.ensures.value ∙ sorted_among blocks c.slot_counting-slot.result b c.requires.chained c.slot_counting-slot.ensures.within

pub returns-clause-found : goal.returns-clause-found
returns-clause-found g c = let blocks = c.args.blocks.now in let b = c.index-blocks-slot.result in let k = c.args.key in
    c.row_counting.ensures.found ∙ (ap (found_at k) c.deref.ensures.value ∙ (ap (λ i. found_at k (get_or blocks i b).rows.items) c.slot_counting-slot.ensures.slot ∙ lookup_among k blocks b c.requires.chained))

pub returns-clause-cost : goal.returns-clause-cost
returns-clause-cost g c = let blocks = c.args.blocks.now in let b = c.index-blocks-slot.result in
    let size = sized_at blocks c.slot_counting-slot.result b c.requires.sized c.slot_counting-slot.ensures.within in
    let within : length c.deref.result.now ≤ 64 = omega (arith, c.deref.ensures.len, size.0) in
    cost_of_both c.args.steps.now c.slot_counting-slot.new.steps c.row_counting.new.steps (length blocks) (length c.deref.result.now) c.slot_counting-slot.ensures.cost c.row_counting.ensures.cost within

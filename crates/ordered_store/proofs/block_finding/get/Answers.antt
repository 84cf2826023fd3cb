use Rattle.std.proofs.Common.{◌∙◌, ap, get_or}
use Rattle.std.specs.Ordering.{nat_cmp}
use Rattle.std.specs.FinMap.{is_sorted}
use Rattle.clv_base.specs.Needs.{found_at}
use Rattle.ordered_store.proofs.Chains.{sorted_among, lookup_among}
use Rattle.ordered_store.proofs.block_finding.get.Goals as goal

pub get-requires : goal.get-requires
get-requires c = let blocks = c.args.blocks.now in let b = c.index-blocks-slot.result in
    ap (is_sorted nat_cmp) c.deref.ensures.value ∙ sorted_among blocks c.slot.result b c.requires c.slot.ensures.within

pub returns : goal.returns
returns c = let blocks = c.args.blocks.now in let b = c.index-blocks-slot.result in let k = c.args.key in
    c.get.ensures ∙ (ap (found_at k) c.deref.ensures.value ∙ (ap (λ i. found_at k (get_or blocks i b).rows.items) c.slot.ensures.slot ∙ lookup_among k blocks b c.requires))

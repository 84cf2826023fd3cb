use Rattle.std.proofs.Common.{◌∙◌, ap, get_or}
use Rattle.std.specs.Ordering.{nat_cmp}
use Rattle.std.specs.FinMap.{is_sorted}
use Rattle.clv_base.specs.Needs.{lower_anchor}
use Rattle.ordered_store.proofs.Chains.{sorted_among, anchor_among}
use Rattle.ordered_store.proofs.block_finding.anchor_below.Goals as goal

pub anchor_below-requires : goal.anchor_below-requires
anchor_below-requires c = let blocks = c.args.blocks.now in let b = c.index-blocks-slot_under.result in
    ap (is_sorted nat_cmp) c.deref.ensures.value ∙ sorted_among blocks c.slot_under.result b c.requires c.slot_under.ensures.within

pub returns : goal.returns
returns c = let blocks = c.args.blocks.now in let b = c.index-blocks-slot_under.result in let k = c.args.key in
    c.anchor_below.ensures ∙ (ap (lower_anchor k) c.deref.ensures.value ∙ (ap (λ i. lower_anchor k (get_or blocks i b).rows.items) c.slot_under.ensures.slot ∙ anchor_among k blocks b c.requires))

use Rattle.std.proofs.Common.{◌≡◌, ◌∙◌, ◌+◌, ◌++◌, append_assoc, drop, ap, sym}
use Rattle.std.proofs.lemmas.List.{at_drop_more}
use Rattle.clv_base.specs.Needs.{live_pairs}
use Rattle.ordered_store.specs.declared.block.Block.{Block}
use Rattle.ordered_store.specs.Blocks.{flat}
use Rattle.ordered_store.proofs.Living.{live-append}
use Rattle.ordered_store.proofs.block_ranging.add_live.Goals as goal

pub loop-block-preserved : goal.loop-block-preserved
loop-block-preserved c = let blocks = c.args.blocks.now in let i = c.loop-block.block-index in let b : Block = c.block-item.result in let before = c.loop-block.pairs.items in let rest = flat (drop (i + 1) blocks) in
    let here : live_pairs (flat (drop i blocks)) ≡ live_pairs (b.rows.items ++ rest) =
    at_drop_more (λ bs. live_pairs (flat bs)) blocks i b c.loop-block-test.true ∙ ap (λ (x : Block). live_pairs (x.rows.items ++ rest)) (sym c.block-item.is) in
    let added : c.add_live.new.pairs.items ≡ before ++ live_pairs b.rows.items = c.in_ok-add_live.ensures ∙ ap (λ rs. before ++ live_pairs rs) c.deref.ensures.value in
    ap (λ ps. ps ++ live_pairs rest) added ∙ append_assoc before (live_pairs b.rows.items) (live_pairs rest) ∙ ap (λ ps. before ++ ps) (sym (live-append b.rows.items rest) ∙ sym here) ∙ c.loop-block.invariant

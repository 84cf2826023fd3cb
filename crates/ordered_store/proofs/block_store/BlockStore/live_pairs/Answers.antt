use Rattle.std.proofs.Common.{◌≡◌, ◌∙◌, ◌+◌, ◌++◌, append_assoc, drop, map, ap, sym}
use Rattle.std.proofs.lemmas.List.{at_drop_more}
use Rattle.clv_base.specs.Needs.{live_pairs}
use Rattle.ordered_store.specs.declared.block_store.BlockStore.{BlockStore}
use Rattle.ordered_store.specs.Blocks.{flat}
use Rattle.ordered_store.specs.InTurn.{live_in_turn}
use Rattle.ordered_store.proofs.block_store.BlockStore.live_pairs.Goals as goal

pub loop-store-preserved : goal.loop-store-preserved
loop-store-preserved c =
    let stores = c.args.stores.now in let i = c.loop-store.store-index in let s : BlockStore = c.store-item.result in let before = c.loop-store.pairs.items in let rest = live_in_turn (map (λ x. flat x.blocks.items) (drop (i + 1) stores)) in
    let here : live_in_turn (map (λ x. flat x.blocks.items) (drop i stores)) ≡ live_pairs (flat s.blocks.items) ++ rest =
    at_drop_more (λ xs. live_in_turn (map (λ x. flat x.blocks.items) xs)) stores i s c.loop-store-test.true ∙ ap (λ (x : BlockStore). live_pairs (flat x.blocks.items) ++ rest) (sym c.store-item.is) in
    let added : c.add_live.new.pairs.items ≡ before ++ live_pairs (flat s.blocks.items) = c.in_ok-add_live.ensures ∙ ap (λ bs. before ++ live_pairs (flat bs)) c.deref.ensures.value in
    ap (λ ps. ps ++ rest) added ∙ append_assoc before (live_pairs (flat s.blocks.items)) rest ∙ ap (λ ps. before ++ ps) (sym here) ∙ c.loop-store.invariant

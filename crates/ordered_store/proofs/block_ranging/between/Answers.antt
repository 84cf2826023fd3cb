use Rattle.std.proofs.Common.{◌≡◌, ◌∙◌, ◌++◌, ◌-◌, ◌<◌, ℕ, List, [], map, take, drop, length, Option, Some, ap, sym, subst}
use Rattle.std.proofs.lemmas.List.{append-nil}
use Rattle.std.specs.Ordering.{nat_cmp}
use Rattle.std.specs.FinMap.{is_sorted}
use Rattle.clv_base.specs.declared.values.Value.{Value as ValueType}
use Rattle.clv_base.specs.declared.modes.Found.{Found}
use Rattle.clv_base.specs.Needs.{Records, found_by, records_between}
use Rattle.ordered_store.specs.declared.block.Block.{Block}
use Rattle.ordered_store.specs.Blocks.{flat}
use Rattle.ordered_store.proofs.Between.{between_from, laid_rest, laid_sorted, none_from, nothing_there}
use Rattle.ordered_store.proofs.block_ranging.between.Goals as goal
use Rattle.ordered_store.proofs.block_ranging.between.Goals.{else-loop-block-test, then-loop-block-test+then-block-high}

pub loop-block-init : goal.loop-block-init
loop-block-init c = let blocks = c.args.blocks.now in let from = c.slot-from.result in
    ap (λ (ys : List (ℕ × Found)). ys ++ map (λ (r : ℕ × Option ValueType). (r.0, found_by (Some r.1))) (records_between c.args.low c.args.high (flat (take (length blocks - from) (drop from blocks))))) c.new-found.ensures.items
    ∙ ap (λ (rs : Records). map (λ (r : ℕ × Option ValueType). (r.0, found_by (Some r.1))) rs) (between_from c.args.low c.args.high blocks from c.requires c.slot-from.ensures.slot)

pub between-requires : goal.between-requires
between-requires c = let blocks = c.args.blocks.now in let from = c.slot-from.result in let xs = take (length blocks - from) (drop from blocks) in
    ap (is_sorted nat_cmp) c.deref.ensures.value ∙ (ap (λ (b : Block). is_sorted nat_cmp b.rows.items) c.block-item.is ∙ laid_sorted xs c.loop-block.block-index c.block-item.result (laid_rest blocks from c.requires) c.loop-block-test.true)

pub returns : goal.returns
returns c = let blocks = c.args.blocks.now in let from = c.slot-from.result in let xs = take (length blocks - from) (drop from blocks) in
    let none : records_between c.args.low c.args.high (flat (drop c.loop-block.block-index xs)) ≡ [] = elim c.loop-block-test.branch [
      | else-loop-block-test w ↦ ap (λ (ys : List Block). records_between c.args.low c.args.high (flat ys)) (nothing_there xs c.loop-block.block-index w.loop-block-test.false)
      | then-loop-block-test+then-block-high w ↦ none_from c.args.low c.args.high xs c.loop-block.block-index w.block-item.result (laid_rest blocks from c.requires) w.loop-block-test.true
          (subst (λ (b : Block). c.args.high < b.fence) w.block-item.is w.if-block-high.true)
    ] in
    sym (append-nil c.loop-block.found.items) ∙ (ap (λ (rs : Records). c.loop-block.found.items ++ map (λ (r : ℕ × Option ValueType). (r.0, found_by (Some r.1))) rs) (sym none) ∙ c.loop-block.invariant)

use Rattle.std.proofs.Common.{◌≡◌, sym, ◌∙◌, ap, drop, []}
use Rattle.std.proofs.lemmas.List.{drop_all}
use Rattle.lock_table.proofs.Copies.{take_each, gap_parts, copy_gaps-take_each}
use Rattle.lock_table.proofs.gaps.split_gap.Goals as goal

pub returns-clause-rows : goal.returns-clause-rows
returns-clause-rows c = let items = c.deref-holder-items.result.now in let rows = c.args.rows.now.items in
    let done : drop c.loop-holder.holder-index items ≡ [] = drop_all c.loop-holder.holder-index items c.loop-holder-test.false in
    let gathered : items ≡ gap_parts c.args.lower rows = c.deref-holder-items.ensures.value ∙ (c.gather.ensures.gathered ∙ ap (gap_parts c.args.lower) c.deref.ensures.value) in
    sym (ap (λ l. take_each c.args.new l c.loop-holder.rows.items) done) ∙ (c.loop-holder.invariant.left ∙ (ap (λ l. take_each c.args.new l rows) gathered ∙ sym (copy_gaps-take_each c.args.lower c.args.new rows rows)))

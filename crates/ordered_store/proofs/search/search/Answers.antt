use Rattle.std.proofs.Common.{◌∙◌, ◌<◌, ◌+◌, ◌-◌, ◌/◌, length, sym, arith}
use Rattle.ordered_store.proofs.Halving.{up_to, onward, stepped, halved}
use Rattle.ordered_store.proofs.search.search.Goals as goal
use Rattle.law_base.proofs.Anchors.{cmp_less as less_of, cmp_greater as greater_of}

pub returns-in-Equal-clause-cost : goal.returns-in-Equal-clause-cost
returns-in-Equal-clause-cost g c = let w = c.loop-low.high - c.loop-low.low in let i = c.loop-low.invariant in
    (omega (arith, i.later, c.compare.ensures.step), stepped c.args.steps.now c.loop-low.steps c.compare.new.steps (length c.args.items.now) w i.later c.compare.ensures.step (omega (arith, c.loop-low-test.true)) i.wide)

pub loop-low-preserved-in-Less : goal.loop-low-preserved-in-Less
loop-low-preserved-in-Less g c = let low = c.loop-low.low in let high = c.loop-low.high in let i = c.loop-low.invariant in let xs = c.args.items.now in let m = low + (high - low) / 2 in
    let some : low < high = c.loop-low-test.true in
    record {
      order = omega (arith, some);
      within = i.within;
      below = up_to g.K.Keyed.key_of xs c.requires.rising m c.args.key c.index-items-middle.result (omega (arith, some, i.within)) c.index-items-middle.is (less_of _ _ (sym c.compare.ensures.order ∙ c.in-Less.is));
      above = i.above;
      later = omega (arith, i.later, c.compare.ensures.step);
      wide = halved c.args.steps.now c.loop-low.steps c.compare.new.steps (length xs) (high - low) i.later c.compare.ensures.step (omega (arith, some)) i.wide (high - (m + 1)) (omega (arith, some));
      cost = stepped c.args.steps.now c.loop-low.steps c.compare.new.steps (length xs) (high - low) i.later c.compare.ensures.step (omega (arith, some)) i.wide;
    }

pub loop-low-preserved : goal.loop-low-preserved
loop-low-preserved g c = let low = c.loop-low.low in let high = c.loop-low.high in let i = c.loop-low.invariant in let xs = c.args.items.now in let m = low + (high - low) / 2 in
    let some : low < high = c.loop-low-test.true in
    record {
      order = omega (arith, some);
      within = omega (arith, some, i.within);
      below = i.below;
      above = onward g.K.Keyed.key_of xs c.requires.rising m c.args.key c.index-items-middle.result (omega (arith, some, i.within)) c.index-items-middle.is (greater_of _ _ (sym c.compare.ensures.order ∙ c.in-Greater.is));
      later = omega (arith, i.later, c.compare.ensures.step);
      wide = halved c.args.steps.now c.loop-low.steps c.compare.new.steps (length xs) (high - low) i.later c.compare.ensures.step (omega (arith, some)) i.wide (m - low) (omega (arith, some));
      cost = stepped c.args.steps.now c.loop-low.steps c.compare.new.steps (length xs) (high - low) i.later c.compare.ensures.step (omega (arith, some)) i.wide;
    }

use Rattle.std.proofs.Common.{◌<◌, length, sym, arith}
use Rattle.interleaving_core.proofs.Puts.{puts_next, puts_here}
use Rattle.interleaving_core.proofs.placing.place_of.Goals as goal

pub returns-then-comes_before : goal.returns-then-comes_before
returns-then-comes_before c =
    let e = c.args.entry.now in let h = c.args.history.now in let i = c.loop-place.place in let l : i < length h = c.loop-place-test.true in
    (omega (arith, l), puts_here e h i c.index-history-place.result l c.index-history-place.is (sym c.if-comes_before.ensures) c.loop-place.invariant)

pub loop-place-preserved : goal.loop-place-preserved
loop-place-preserved c =
    let e = c.args.entry.now in let h = c.args.history.now in let i = c.loop-place.place in let l : i < length h = c.loop-place-test.true in
    puts_next e h i c.index-history-place.result l c.index-history-place.is (sym c.if-comes_before.ensures) c.loop-place.invariant

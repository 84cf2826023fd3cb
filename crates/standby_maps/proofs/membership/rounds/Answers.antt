use Rattle.std.proofs.Common.{◌≡◌, arith, sym, subst, ◌∙◌}
use Rattle.std.specs.List.{filter}
use Rattle.standby_base.specs.Standby.{keeps}
use Rattle.standby_maps.proofs.Rounds.{nobody_goes, one_round}
use Rattle.standby_maps.proofs.membership.rounds.Goals as goal

pub returns-then-len : goal.returns-then-len
returns-then-len c =
    let txs = c.loop-left.txs.items in
    let kept = c.in_ok-kept.kept.items in
    let stay = subst (λ xs. kept ≡ filter (keeps c.args.logs.now xs) xs) c.as_slice.ensures.value c.in_ok-kept.ensures in
    let count = c.in_ok-kept.kept.ok.0 in
    let before = c.loop-left.txs.ok.0 in
    let same = sym c.len.ensures ∙ c.if-len.true ∙ c.len-in-loop-left.ensures in
    nobody_goes c.args.logs.now c.loop-left._left txs kept stay (omega (arith, count, before, same)) c.loop-left.invariant

pub loop-left-preserved : goal.loop-left-preserved
loop-left-preserved c =
    let txs = c.loop-left.txs.items in
    let kept = c.in_ok-kept.kept.items in
    let stay = subst (λ xs. kept ≡ filter (keeps c.args.logs.now xs) xs) c.as_slice.ensures.value c.in_ok-kept.ensures in
    one_round c.args.logs.now c.loop-left._left txs kept stay c.loop-left-test.true c.loop-left.invariant

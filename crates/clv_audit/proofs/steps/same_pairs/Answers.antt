use Rattle.std.proofs.Common.{◌<◌, ℕ, false, refl, subst}
use Rattle.std.proofs.lemmas.Bool.{both_ways}
use Rattle.clv_audit.proofs.Comparing.{fronts_more, apart_at}
use Rattle.clv_audit.proofs.steps.same_pairs.Goals as goal

pub returns-then-not-same_pair : goal.returns-then-not-same_pair
returns-then-not-same_pair c = (
  λ e. absurd (both_ways false refl e),
  λ e. absurd
      (apart_at c.args.told.now c.args.found.now c.loop-i.i c.index-told-i.result c.index-found-i.result c.index-told-i.is c.index-found-i.is c.loop-i-test.true
      (λ same. both_ways c.same_pair.result c.if-not-same_pair.true (c.same_pair.ensures.1 same)) e),
)

pub loop-i-preserved : goal.loop-i-preserved
loop-i-preserved c =
    fronts_more c.args.told.now c.args.found.now c.loop-i.i c.index-told-i.result c.index-found-i.result c.loop-i-test.true (subst (λ (n : ℕ). c.loop-i.i < n) c.if-told-found.false c.loop-i-test.true) c.index-told-i.is c.index-found-i.is c.loop-i.invariant
    (c.same_pair.ensures.0 c.if-not-same_pair.false)

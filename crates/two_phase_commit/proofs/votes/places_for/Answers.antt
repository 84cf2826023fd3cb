-- There is a place for one more.
use Rattle.std.proofs.Common.{ℕ, ◌+◌, ◌<◌, List, drop, get_or, subst, arith}
use Rattle.std.specs.List.{AllByRecursion}
use Rattle.two_phase_commit.proofs.Ballots.{AreEnough, cut_at, one_more, all_left}
use Rattle.two_phase_commit.proofs.votes.places_for.Goals as goal

pub loop-part-preserved : goal.loop-part-preserved
loop-part-preserved c =
    let ts = c.args.touched.now in let i = c.loop-part.part-index in let t : ℕ × ℕ = get_or ts i (0, 0) in let rest = drop (i + 1) ts in
    let cut = cut_at i ts (0, 0) c.loop-part-test.true in
    let low = subst (λ (l : List (ℕ × ℕ)). AllByRecursion (λ t. t.0 < 16) l) cut c.loop-part.invariant.low in
    let enough = subst (λ (l : List (ℕ × ℕ)). AreEnough c.loop-part.count l ts) cut c.loop-part.invariant.enough in
    let more = c.places_with-count.ensures in
    record {
      enough = one_more c.loop-part.count c.places_with-count.result rest ts t more.more more.place enough;
      few = more.few c.loop-part.invariant.few low.0;
      low = low.1;
    }

pub returns-clause-places : goal.returns-clause-places
returns-clause-places c =
    c.loop-part.invariant.enough c.loop-part.count (omega arith) (all_left c.loop-part.count c.loop-part.part-index c.args.touched.now c.loop-part-test.false)

use Rattle.std.proofs.Common.{◌≡◌, ℕ, ◌<◌, ◌+◌, sym, ◌∙◌, ap, cond, length, is_some, arith}
use Rattle.lock_index.specs.Groups.{rows_of}
use Rattle.lock_index.specs.Rows.{groups}
use Rattle.lock_index.proofs.Ties.{goes_on, ended, shorter}
use Rattle.lock_index.proofs.giving_up.release.Goals as goal
use Rattle.law_base.proofs.Numbers.{one_if as flag}

pub loop-more-smaller : goal.loop-more-smaller
loop-more-smaller c = let before = rows_of (groups c.loop-more.groups.entries) in let after = rows_of (groups c.release_next.new.groups.entries) in
    let less : length after + cond (is_some c.release_next.result) 1 0 < length before + 1 = shorter c.args.tx c.release_next.result before after c.release_next.ensures.given in
    let now : ◌≡◌ {A = ℕ} (cond c.is_some-more.result 1 0) (cond (is_some c.release_next.result) 1 0) = ap flag c.is_some-more.ensures in
    let was : ◌≡◌ {A = ℕ} (cond c.loop-more.more 1 0) 1 = ap flag c.loop-more-test.true in omega (arith, less, now, was)

pub loop-more-preserved : goal.loop-more-preserved
loop-more-preserved c = let before = rows_of (groups c.loop-more.groups.entries) in let after = rows_of (groups c.release_next.new.groups.entries) in record {
  kept = c.release_next.ensures.kept;
  left = goes_on c.args.tx c.release_next.result before after c.release_next.ensures.given ∙ c.loop-more.invariant.left;
  done = λ e. ended c.args.tx c.release_next.result before after c.release_next.ensures.given (sym c.is_some-more.ensures ∙ e);
}

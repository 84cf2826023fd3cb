-- The lists are read as before, and there are no fewer places.
use Rattle.std.proofs.Common.{length, refl, ap, ◌∙◌, arith}
use Rattle.cascade_undo.specs.Dependencies.{Dependencies}
use Rattle.cascade_undo.proofs.Listed.{pairs_alike, kept_reserved}
use Rattle.cascade_undo.proofs.deps.Deps.reserve_pairs.Goals as goal

pub invariant_of-self : goal.invariant_of-self
invariant_of-self c =
    let k = c.self.invariant.0 in let left = c.self.invariant.1 in let lists = c.reserve_lists.ensures in
    let same = ap length (pairs_alike c.self.inside.preds.lists c.reserve_lists.new.pairs.lists lists.pairs) in (
      kept_reserved _ _ _ _ _ _ _ _ _ _ _ _ _ k lists.pairs lists.turned refl (omega arith) (omega arith) (λ t. refl),
      (omega (arith, same, left.0), left.1, left.2, left.3, left.4),
    )

pub returns-in_err-reserve_lists-clause-pairs : goal.returns-in_err-reserve_lists-clause-pairs
returns-in_err-reserve_lists-clause-pairs c =
    pairs_alike c.self.inside.preds.lists c.reserve_lists.new.pairs.lists c.reserve_lists.ensures.pairs ∙ ap (λ (v : Dependencies). v.pairs) c.self.view_is

pub invariant_of-self-in_err-reserve_rows : goal.invariant_of-self-in_err-reserve_rows
invariant_of-self-in_err-reserve_rows c =
    let k = c.self.invariant.0 in let left = c.self.invariant.1 in let lists = c.reserve_lists.ensures in let more = c.reserve_rows.ensures.kept in
    let same = ap length (pairs_alike c.self.inside.preds.lists c.reserve_lists.new.pairs.lists lists.pairs) in (
      kept_reserved _ _ _ _ _ _ _ _ _ _ _ _ _ k lists.pairs lists.turned c.reserve_rows.ensures.marks more.1 more.2 c.reserve_rows.ensures.rows,
      (omega (arith, same, left.0), omega (arith, left.1, more.1), omega (arith, left.2, more.2), omega (arith, left.3, more.0), left.4),
    )

pub returns-in_err-reserve_rows-clause-pairs : goal.returns-in_err-reserve_rows-clause-pairs
returns-in_err-reserve_rows-clause-pairs c =
    pairs_alike c.self.inside.preds.lists c.reserve_lists.new.pairs.lists c.reserve_lists.ensures.pairs ∙ ap (λ (v : Dependencies). v.pairs) c.self.view_is

pub invariant_of-self-2 : goal.invariant_of-self-2
invariant_of-self-2 c =
    let k = c.self.invariant.0 in let left = c.self.invariant.1 in let lists = c.reserve_lists.ensures in let more = c.reserve_rows.ensures.kept in
    let same = ap length (pairs_alike c.self.inside.preds.lists c.reserve_lists.new.pairs.lists lists.pairs) in
    let places = c.max-self-inside.ensures in let now = c.in_ok-reserve_rows.ensures.ok in (
      kept_reserved _ _ _ _ _ _ _ _ _ _ _ _ _ k lists.pairs lists.turned c.reserve_rows.ensures.marks more.1 more.2 c.reserve_rows.ensures.rows,
      (
        omega (arith, same, left.0),
        omega (arith, left.1, more.1, places, now.1),
        omega (arith, left.2, more.2, places, now.2),
        omega (arith, left.3, more.0, places, now.0),
        left.4,
      ),
    )

pub returns-clause-pairs : goal.returns-clause-pairs
returns-clause-pairs c =
    pairs_alike c.self.inside.preds.lists c.reserve_lists.new.pairs.lists c.reserve_lists.ensures.pairs ∙ ap (λ (v : Dependencies). v.pairs) c.self.view_is

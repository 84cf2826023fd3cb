use Rattle.std.proofs.Common.{ℕ, ◌≡◌, ◌+◌, ◌-◌, subst, length, take, get_or, arith}
use Rattle.cluster_turns.specs.Notes.{notes_left}
use Rattle.law_base.proofs.Lists.{own_default}
use Rattle.cluster_turns.proofs.Noting.{left_before}
use Rattle.cluster_turns.proofs.notes.count_up_to.Goals as goal

pub returns-then-items-count-clause-left : goal.returns-then-items-count-clause-left
returns-then-items-count-clause-left c = λ n.
    let items = c.args.items.now in
    let k : ℕ = length items - 1 - c.loop-above.above in
    let is : k + 1 ≡ length items - c.loop-above.above = omega arith in
    let P : ℕ → Type 0 = λ j. notes_left n c.args.upto (take j items) ≡ take j items in
    subst P is (left_before c.args.upto k items (get_or items k (0, 0)) c.requires (omega arith) (own_default items k (0, 0) (omega arith)) c.if-items-count.true n)

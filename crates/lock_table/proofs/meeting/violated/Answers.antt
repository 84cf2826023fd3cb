use Rattle.std.proofs.Common.{◌≡◌, sym, ◌∙◌, ap, subst, drop, []}
use Rattle.std.specs.List.Sorted.{IsStrictlySortedBy}
use Rattle.std.proofs.lemmas.List.{drop_all}
use Rattle.clv_base.specs.Orders.{tx_cmp}
use Rattle.clv_base.specs.Locks.{violated_by, violated}
use Rattle.lock_table.proofs.Rising.{violated-rises}
use Rattle.lock_table.proofs.meeting.violated.Goals as goal

pub returns-clause-rising : goal.returns-clause-rising
returns-clause-rising c = let tx = c.args.tx in let needs = c.args.needs.now in let rows = c.args.rows.now in let found = c.loop-row.found.items in
    let done : drop c.loop-row.row-index rows ≡ [] = drop_all c.loop-row.row-index rows c.loop-row-test.false in
    let all : violated tx needs rows ≡ found = sym c.loop-row.invariant ∙ ap (λ l. violated_by tx needs l found) done in
    subst (IsStrictlySortedBy tx_cmp) all (violated-rises tx needs rows)

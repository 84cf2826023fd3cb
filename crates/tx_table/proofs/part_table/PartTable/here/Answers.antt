-- The index, which rises, is its table's.
use Rattle.std.proofs.Common.{sym, ap, subst, ◌∙◌}
use Rattle.std.specs.List.Sorted.{IsStrictlySortedBy}
use Rattle.std.specs.Map.{keys_of}
use Rattle.clv_base.specs.Orders.{tx_cmp}
use Rattle.tx_table.specs.Parts.{PartRows, is_here, parts_here}
use Rattle.tx_table.proofs.Members.{in_order, index_rises}
use Rattle.tx_table.proofs.part_table.PartTable.here.Goals as goal

pub returns-clause-rising : goal.returns-clause-rising
returns-clause-rising c = index_rises is_here c.args.self.now.entries c.rising.ensures

pub returns-in_err-txs-clause-rising : goal.returns-in_err-txs-clause-rising
returns-in_err-txs-clause-rising c = index_rises is_here c.args.self.now.entries c.rising.ensures

pub returns-clause-txs : goal.returns-clause-txs
returns-clause-txs c =
    let rows = c.self.inside.parts.entries in
    let rise : IsStrictlySortedBy tx_cmp (keys_of rows) = subst (λ (v : PartRows). IsStrictlySortedBy tx_cmp (keys_of v.entries)) (sym c.self.view_is) c.rising.ensures in
    c.in_ok-txs.ensures.txs ∙ in_order is_here rows c.self.inside.here rise c.in_ok-txs.ensures.rising c.self.invariant.0 ∙ ap (λ (v : PartRows). parts_here v.entries) c.self.view_is

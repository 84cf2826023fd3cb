-- A part that is there is marked by its new value; where there is none, all stays.
use Rattle.std.proofs.Common.{◌≡◌, true, subst, Some, None, sym, ap, ◌∙◌}
use Rattle.clv_base.specs.Orders.{tx_cmp, tx_get}
use Rattle.clv_base.specs.OneShard.{dropped_part}
use Rattle.std.specs.BTreeMap.{insert_entry}
use Rattle.tx_table.specs.Parts.{is_here as part_is_here}
use Rattle.txn_core.proofs.Ends.{no_return, changed-none, changed-found}
use Rattle.txn_core.proofs.ending.mark_dropped.Goals as goal

pub returns-in-None : goal.returns-in-None
returns-in-None c =
    let none : tx_get c.args.tx c.args.parts.now.entries ≡ None = sym c.get.ensures ∙ c.in-None.is in
    sym (changed-none c.args.tx dropped_part c.args.parts.now.entries none)

pub returns : goal.returns
returns c =
    let parts = c.args.parts.now.entries in let there : tx_get c.args.tx parts ≡ Some c.in-Some.part = sym c.get.ensures ∙ c.in-Some.is in
    c.change.ensures.entries ∙ ap (insert_entry tx_cmp parts c.args.tx) c.dropped.ensures
    ∙ changed-found c.args.tx dropped_part c.in-Some.part parts c.change.ensures.rising there

pub change-requires : goal.change-requires
change-requires c =
    let there : tx_get c.args.tx c.args.parts.now.entries ≡ Some c.in-Some.part = sym c.get.ensures ∙ c.in-Some.is in
    no_return _ c.in-Some.part c.dropped.result there (λ e. subst (λ h. part_is_here h ≡ true) c.dropped.ensures e)

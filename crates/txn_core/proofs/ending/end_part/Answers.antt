-- A part that is there ends by its new value; where there is none, all stays.
use Rattle.std.proofs.Common.{◌≡◌, true, false, refl, subst, Some, None, sym, ap, ◌∙◌}
use Rattle.clv_base.specs.Orders.{tx_cmp, tx_get}
use Rattle.clv_base.specs.Undo.{gone_part}
use Rattle.std.specs.BTreeMap.{insert_entry}
use Rattle.std.proofs.lemmas.Bool.{both_ways}
use Rattle.tx_table.specs.Parts.{is_here as part_is_here}
use Rattle.txn_core.proofs.Ends.{no_return, changed-none, changed-found, gone_in-changed}
use Rattle.txn_core.proofs.ending.end_part.Goals as goal

pub returns-in-None : goal.returns-in-None
returns-in-None c =
    let parts = c.args.parts.now.entries in let none : tx_get c.args.tx parts ≡ None = sym c.get.ensures ∙ c.in-None.is in
    sym (gone_in-changed (Some c.args.doom) c.args.tx parts ∙ changed-none c.args.tx (gone_part (Some c.args.doom)) parts none)

pub returns : goal.returns
returns c =
    let parts = c.args.parts.now.entries in let there : tx_get c.args.tx parts ≡ Some c.in-Some.part = sym c.get.ensures ∙ c.in-Some.is in
    c.change.ensures.entries ∙ ap (insert_entry tx_cmp parts c.args.tx) c.gone.ensures
    ∙ changed-found c.args.tx (gone_part (Some c.args.doom)) c.in-Some.part parts c.change.ensures.rising there ∙ sym (gone_in-changed (Some c.args.doom) c.args.tx parts)

pub change-requires : goal.change-requires
change-requires c =
    let there : tx_get c.args.tx c.args.parts.now.entries ≡ Some c.in-Some.part = sym c.get.ensures ∙ c.in-Some.is in
    no_return _ c.in-Some.part c.gone.result there (λ e. absurd (both_ways false refl (subst (λ h. part_is_here h ≡ true) c.gone.ensures e)))

-- The value changes where the transaction's key is.
use Rattle.std.proofs.Common.{◌≡◌, false, None, Some, IsSome, refl, sym, ◌∙◌, ap, cond, subst}
use Rattle.std.proofs.lemmas.Bool.{both_ways}
use Rattle.std.specs.Map.{lookup}
use Rattle.clv_base.specs.Orders.{tx_get}
use Rattle.tx_table.specs.Keys.{key_of}
use Rattle.tx_table.proofs.Lookups.{same_key, tx_same-key, tx_get-by_name}
use Rattle.tx_table.proofs.table.TxTable.replace.Goals as goal

pub unreachable-requires : goal.unreachable-requires
unreachable-requires g c =
    let rows = c.self.inside.rows.entries in
    let none : tx_get c.args.tx c.args.self.now.rows ≡ None =
    ap (λ v. tx_get c.args.tx v.rows) (sym c.self.view_is) ∙ tx_get-by_name c.args.tx rows
    ∙ ap (λ k. lookup (same_key k) rows) (sym c.new.ensures) ∙ sym c.in_default.ensures.value in
    absurd (both_ways false refl (subst IsSome none c.requires))

pub returns-clause-rows : goal.returns-clause-rows
returns-clause-rows g c = λ t. let rows = c.self.inside.rows.entries in let set = Some c.args.value in
    let there : IsSome (lookup (same_key c.new.result) rows) = subst IsSome c.in-Some.ensures.value refl in
    tx_get-by_name t (c.get_mut.follows.lender c.args.value).entries ∙ ((c.get_mut.follows.holds c.args.value).3 there).0 (key_of t)
    ∙ ap (λ k. cond (same_key k (key_of t)) set (lookup (same_key (key_of t)) rows)) c.new.ensures
    ∙ ap (λ b. cond b set (lookup (same_key (key_of t)) rows)) (sym (tx_same-key c.args.tx (key_of t)))
    ∙ ap (cond _ set) (sym (tx_get-by_name t rows) ∙ ap (λ v. tx_get t v.rows) c.self.view_is)

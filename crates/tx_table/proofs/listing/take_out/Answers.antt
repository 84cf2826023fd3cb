-- One goes from the list of the transaction, and no other list changes.
use Rattle.std.proofs.Common.{◌≡◌, cond, not, [], List, Some, None, IsSome, refl, sym, ap, subst, ◌∙◌, eqb-true}
use Rattle.std.proofs.lemmas.List.{nil_from_length}
use Rattle.std.specs.List.{filter}
use Rattle.std.specs.Map.{lookup}
use Rattle.std.specs.List.Sorted.{IsStrictlySortedBy}
use Rattle.clv_base.specs.declared.names.TxId.{TxId}
use Rattle.clv_base.specs.Orders.{tx_cmp, tx_same}
use Rattle.clv_base.proofs.SameNames.{tx_self}
use Rattle.tx_table.specs.Lists.{lists_of, list_in}
use Rattle.tx_table.proofs.Lookups.{same_key}
use Rattle.tx_table.proofs.Reading.{kept, items, read_some, read_none, read_changed, kept_changed, own_changed, none_changed}
use Rattle.tx_table.proofs.listing.take_out.Goals as goal

pub remove-requires : goal.remove-requires
remove-requires c = let tx = c.args.tx in let es = c.args.lists.now.entries in let v = c.in-Some.list.now in
    let found : kept tx es ≡ Some v = sym (c.in-Some.ensures.value ∙ ap (λ k. lookup (same_key k) es) c.new.ensures) in
    subst (IsStrictlySortedBy tx_cmp) (read_some items [] tx es v found) c.requires

pub returns-in_default-clause-lists : goal.returns-in_default-clause-lists
returns-in_default-clause-lists c = λ t. let tx = c.args.tx in let es = c.args.lists.now.entries in let member = c.args.member in
    let gone : kept tx es ≡ None = sym (ap (λ k. lookup (same_key k) es) c.new.ensures) ∙ sym c.in_default.ensures.value in
    ap (λ m. list_in t (lists_of m.entries)) c.get_mut.follows.holds-at-none
    ∙ none_changed (λ (xs : List TxId). filter (λ x. not (tx_same x member)) xs) tx t (λ u. list_in u (lists_of es)) [] (read_none items [] tx es gone) refl

pub returns-clause-lists : goal.returns-clause-lists
returns-clause-lists c = λ t. let tx = c.args.tx in let es = c.args.lists.now.entries in let v = c.in-Some.list.now in let w = c.remove.new.items in let member = c.args.member in
    let fs = (c.get_mut.follows.lender w).entries in let there : IsSome (lookup (same_key c.new.result) es) = subst IsSome c.in-Some.ensures.value refl in
    let found : kept tx es ≡ Some v = sym (c.in-Some.ensures.value ∙ ap (λ k. lookup (same_key k) es) c.new.ensures) in
    let after = kept_changed tx c.new.result (Some w) es fs c.new.ensures ((c.get_mut.follows.holds w).3 there).0 in
    read_changed items [] tx (Some w) es fs after t
    ∙ own_changed (λ (xs : List TxId). filter (λ x. not (tx_same x member)) xs) tx t (λ u. list_in u (lists_of es)) w.items
    (c.remove.ensures.items ∙ ap (λ (xs : List TxId). filter (λ x. not (tx_same x member)) xs) (sym (read_some items [] tx es v found)))

pub returns-clause-nobody : goal.returns-clause-nobody
returns-clause-nobody c = λ empty. let tx = c.args.tx in let es = c.args.lists.now.entries in let w = c.remove.new.items in
    let fs = (c.get_mut.follows.lender w).entries in let there : IsSome (lookup (same_key c.new.result) es) = subst IsSome c.in-Some.ensures.value refl in
    let after = kept_changed tx c.new.result (Some w) es fs c.new.ensures ((c.get_mut.follows.holds w).3 there).0 in
    let none : w.items ≡ [] = nil_from_length w.items (sym w.ok.0 ∙ eqb-true w.len 0 (sym c.is_empty.ensures ∙ empty)) in
    read_changed items [] tx (Some w) es fs after tx ∙ ap (λ b. cond b w.items (list_in tx (lists_of es))) (tx_self tx) ∙ none

-- One more stands at its place in the list of the transaction, and no other list changes.
use Rattle.std.proofs.Common.{◌≡◌, ◌-◌, not, [], List, Some, None, IsSome, vec_len, vec_capacity, refl, sym, ap, subst, ◌∙◌, arith}
use Rattle.std.specs.Map.{lookup}
use Rattle.std.specs.List.Sorted.{IsStrictlySortedBy}
use Rattle.clv_base.specs.declared.names.TxId.{TxId}
use Rattle.clv_base.specs.Orders.{tx_cmp, tx_in, tx_insert}
use Rattle.tx_table.specs.Lists.{lists_of, rooms_of, list_in, room_in}
use Rattle.tx_table.proofs.Lookups.{same_key}
use Rattle.tx_table.proofs.Reading.{kept, items, spare, read_some, read_none, read_changed, kept_changed, own_changed, room_used}
use Rattle.tx_table.proofs.listing.put_in.Goals as goal

pub unreachable-requires : goal.unreachable-requires
unreachable-requires c = let tx = c.args.tx in let es = c.args.lists.now.entries in
    let gone : kept tx es ≡ None = sym (ap (λ k. lookup (same_key k) es) c.new.ensures) ∙ sym c.in_default.ensures.value in
    let none : room_in tx (rooms_of es) ≡ 0 = read_none spare 0 tx es gone in let some = c.requires.room in absurd (omega (arith, none, some))

pub insert-requires-clause-rising : goal.insert-requires-clause-rising
insert-requires-clause-rising c = let tx = c.args.tx in let es = c.args.lists.now.entries in let v = c.in-Some.list.now in
    let found : kept tx es ≡ Some v = sym (c.in-Some.ensures.value ∙ ap (λ k. lookup (same_key k) es) c.new.ensures) in
    subst (IsStrictlySortedBy tx_cmp) (read_some items [] tx es v found) c.requires.rising

pub insert-requires-clause-room : goal.insert-requires-clause-room
insert-requires-clause-room c = let tx = c.args.tx in let es = c.args.lists.now.entries in let v = c.in-Some.list.now in
    let found : kept tx es ≡ Some v = sym (c.in-Some.ensures.value ∙ ap (λ k. lookup (same_key k) es) c.new.ensures) in
    let left : room_in tx (rooms_of es) ≡ vec_capacity v - vec_len v = read_some spare 0 tx es v found in let some = c.requires.room in omega (arith, left, some)

pub returns-clause-new : goal.returns-clause-new
returns-clause-new c = let tx = c.args.tx in let es = c.args.lists.now.entries in let v = c.in-Some.list.now in
    let found : kept tx es ≡ Some v = sym (c.in-Some.ensures.value ∙ ap (λ k. lookup (same_key k) es) c.new.ensures) in
    c.insert.ensures.new ∙ ap (λ (xs : List TxId). not (tx_in c.args.member xs)) (sym (read_some items [] tx es v found))

pub returns-clause-lists : goal.returns-clause-lists
returns-clause-lists c = λ t. let tx = c.args.tx in let es = c.args.lists.now.entries in let v = c.in-Some.list.now in let w = c.insert.new.items in
    let fs = (c.get_mut.follows.lender w).entries in let there : IsSome (lookup (same_key c.new.result) es) = subst IsSome c.in-Some.ensures.value refl in
    let found : kept tx es ≡ Some v = sym (c.in-Some.ensures.value ∙ ap (λ k. lookup (same_key k) es) c.new.ensures) in
    let after = kept_changed tx c.new.result (Some w) es fs c.new.ensures ((c.get_mut.follows.holds w).3 there).0 in
    read_changed items [] tx (Some w) es fs after t
    ∙ own_changed (tx_insert c.args.member) tx t (λ u. list_in u (lists_of es)) w.items (c.insert.ensures.items ∙ ap (tx_insert c.args.member) (sym (read_some items [] tx es v found)))

pub returns-clause-room : goal.returns-clause-room
returns-clause-room c = λ t. let tx = c.args.tx in let es = c.args.lists.now.entries in let v = c.in-Some.list.now in let w = c.insert.new.items in
    let fs = (c.get_mut.follows.lender w).entries in let there : IsSome (lookup (same_key c.new.result) es) = subst IsSome c.in-Some.ensures.value refl in
    let found : kept tx es ≡ Some v = sym (c.in-Some.ensures.value ∙ ap (λ k. lookup (same_key k) es) c.new.ensures) in
    let after = kept_changed tx c.new.result (Some w) es fs c.new.ensures ((c.get_mut.follows.holds w).3 there).0 in
    let left : room_in tx (rooms_of es) ≡ vec_capacity v - vec_len v = read_some spare 0 tx es v found in
    let used = c.insert.ensures.room in
    room_used tx t (λ u. room_in u (rooms_of es)) (spare w) (room_in t (rooms_of fs)) (read_changed spare 0 tx (Some w) es fs after t) (omega (arith, left, used.0, used.1))

use Rattle.std.proofs.Common.{◌≡◌, ◌-◌, [], cond, Some, None, IsSome, vec_len, vec_capacity, refl, sym, ap, subst, ◌∙◌, arith}
use Rattle.std.specs.Map.{lookup}
use Rattle.clv_base.proofs.SameNames.{tx_self}
use Rattle.tx_table.specs.Lists.{lists_of, rooms_of, list_in, room_in}
use Rattle.tx_table.proofs.Lookups.{same_key}
use Rattle.tx_table.proofs.Reading.{kept, items, spare, read_some, read_none, read_changed, kept_changed, own_same, room_more}
use Rattle.tx_table.proofs.listing.reserve_there.Goals as goal

pub returns-in_default-clause-missing : goal.returns-in_default-clause-missing
returns-in_default-clause-missing c = λ n. let tx = c.args.tx in let es = c.args.lists.now.entries in
    let gone : kept tx es ≡ None = sym (ap (λ k. lookup (same_key k) es) c.new.ensures) ∙ sym c.in_default.ensures.value in (
      ap (λ m. list_in tx (lists_of m.entries)) c.get_mut.follows.holds-at-none ∙ read_none items [] tx es gone,
      ap (λ m. room_in tx (rooms_of m.entries)) c.get_mut.follows.holds-at-none ∙ read_none spare 0 tx es gone,
    )

pub returns-in_default-clause-lists : goal.returns-in_default-clause-lists
returns-in_default-clause-lists c = λ t. ap (λ m. list_in t (lists_of m.entries)) c.get_mut.follows.holds-at-none

pub returns-in_default-clause-room : goal.returns-in_default-clause-room
returns-in_default-clause-room c = λ t. let same = ap (λ m. room_in t (rooms_of m.entries)) c.get_mut.follows.holds-at-none in omega (arith, same)

pub returns-in-Ok-clause-ok : goal.returns-in-Ok-clause-ok
returns-in-Ok-clause-ok c = let tx = c.args.tx in let es = c.args.lists.now.entries in let w = c.reserve.new.self in
    let fs = (c.get_mut.follows.lender w).entries in let there : IsSome (lookup (same_key c.new.result) es) = subst IsSome c.in-Some.ensures.value refl in
    let after = kept_changed tx c.new.result (Some w) es fs c.new.ensures ((c.get_mut.follows.holds w).3 there).0 in
    let room : room_in tx (rooms_of fs) ≡ vec_capacity w - vec_len w = read_changed spare 0 tx (Some w) es fs after tx ∙ ap (λ b. cond b (spare w) (room_in tx (rooms_of es))) (tx_self tx) in
    omega (arith, room, c.in-Ok.ensures.ok)

pub returns-in-Ok-clause-lists : goal.returns-in-Ok-clause-lists
returns-in-Ok-clause-lists c = λ t. let tx = c.args.tx in let es = c.args.lists.now.entries in let v = c.in-Some.list.now in let w = c.reserve.new.self in
    let fs = (c.get_mut.follows.lender w).entries in let there : IsSome (lookup (same_key c.new.result) es) = subst IsSome c.in-Some.ensures.value refl in
    let found : kept tx es ≡ Some v = sym (c.in-Some.ensures.value ∙ ap (λ k. lookup (same_key k) es) c.new.ensures) in
    let after = kept_changed tx c.new.result (Some w) es fs c.new.ensures ((c.get_mut.follows.holds w).3 there).0 in
    read_changed items [] tx (Some w) es fs after t ∙ own_same tx t (λ u. list_in u (lists_of es)) w.items (c.reserve.ensures.items ∙ sym (read_some items [] tx es v found))

pub returns-in-Ok-clause-room : goal.returns-in-Ok-clause-room
returns-in-Ok-clause-room c = λ t. let tx = c.args.tx in let es = c.args.lists.now.entries in let v = c.in-Some.list.now in let w = c.reserve.new.self in
    let fs = (c.get_mut.follows.lender w).entries in let there : IsSome (lookup (same_key c.new.result) es) = subst IsSome c.in-Some.ensures.value refl in
    let found : kept tx es ≡ Some v = sym (c.in-Some.ensures.value ∙ ap (λ k. lookup (same_key k) es) c.new.ensures) in
    let after = kept_changed tx c.new.result (Some w) es fs c.new.ensures ((c.get_mut.follows.holds w).3 there).0 in
    let left : room_in tx (rooms_of es) ≡ vec_capacity v - vec_len v = read_some spare 0 tx es v found in
    room_more tx t (λ u. room_in u (rooms_of es)) (spare w) (room_in t (rooms_of fs)) (read_changed spare 0 tx (Some w) es fs after t) (omega (arith, left, c.reserve.ensures.len, c.reserve.ensures.capacity))

pub returns-in-Err-clause-lists : goal.returns-in-Err-clause-lists
returns-in-Err-clause-lists c = λ t. let tx = c.args.tx in let es = c.args.lists.now.entries in let v = c.in-Some.list.now in let w = c.reserve.new.self in
    let fs = (c.get_mut.follows.lender w).entries in let there : IsSome (lookup (same_key c.new.result) es) = subst IsSome c.in-Some.ensures.value refl in
    let found : kept tx es ≡ Some v = sym (c.in-Some.ensures.value ∙ ap (λ k. lookup (same_key k) es) c.new.ensures) in
    let after = kept_changed tx c.new.result (Some w) es fs c.new.ensures ((c.get_mut.follows.holds w).3 there).0 in
    read_changed items [] tx (Some w) es fs after t ∙ own_same tx t (λ u. list_in u (lists_of es)) w.items (c.reserve.ensures.items ∙ sym (read_some items [] tx es v found))

pub returns-in-Err-clause-room : goal.returns-in-Err-clause-room
returns-in-Err-clause-room c = λ t. let tx = c.args.tx in let es = c.args.lists.now.entries in let v = c.in-Some.list.now in let w = c.reserve.new.self in
    let fs = (c.get_mut.follows.lender w).entries in let there : IsSome (lookup (same_key c.new.result) es) = subst IsSome c.in-Some.ensures.value refl in
    let found : kept tx es ≡ Some v = sym (c.in-Some.ensures.value ∙ ap (λ k. lookup (same_key k) es) c.new.ensures) in
    let after = kept_changed tx c.new.result (Some w) es fs c.new.ensures ((c.get_mut.follows.holds w).3 there).0 in
    let left : room_in tx (rooms_of es) ≡ vec_capacity v - vec_len v = read_some spare 0 tx es v found in
    room_more tx t (λ u. room_in u (rooms_of es)) (spare w) (room_in t (rooms_of fs)) (read_changed spare 0 tx (Some w) es fs after t) (omega (arith, left, c.reserve.ensures.len, c.reserve.ensures.capacity))

-- A list with nobody in it is read as no list.
use Rattle.std.proofs.Common.{◌≡◌, ◌-◌, [], cond, Some, vec_len, vec_capacity, sym, ap, ◌∙◌, arith}
use Rattle.clv_base.proofs.SameNames.{tx_self}
use Rattle.tx_table.specs.Lists.{lists_of, rooms_of, list_in, room_in}
use Rattle.tx_table.proofs.Reading.{items, spare, read_changed, kept_changed, own_same, room_more}
use Rattle.tx_table.proofs.listing.add_list.Goals as goal

pub returns-in-Ok-insert-clause-ok : goal.returns-in-Ok-insert-clause-ok
returns-in-Ok-insert-clause-ok c = let tx = c.args.tx in let es = c.args.lists.now.entries in let fs = c.insert.new.self.entries in let w = c.reserve.new.self in
    let after = kept_changed tx c.new.result (Some w) es fs c.new.ensures c.in-Ok-insert.ensures.updates.0 in
    let room : room_in tx (rooms_of fs) ≡ vec_capacity w - vec_len w = read_changed spare 0 tx (Some w) es fs after tx ∙ ap (λ b. cond b (spare w) (room_in tx (rooms_of es))) (tx_self tx) in
    omega (arith, room, c.in-Ok.ensures.ok)

pub returns-in-Ok-insert-clause-lists : goal.returns-in-Ok-insert-clause-lists
returns-in-Ok-insert-clause-lists c = λ t. let tx = c.args.tx in let es = c.args.lists.now.entries in let fs = c.insert.new.self.entries in let w = c.reserve.new.self in
    let after = kept_changed tx c.new.result (Some w) es fs c.new.ensures c.in-Ok-insert.ensures.updates.0 in
    read_changed items [] tx (Some w) es fs after t ∙ own_same tx t (λ u. list_in u (lists_of es)) w.items (c.reserve.ensures.items ∙ c.new-list.ensures.items ∙ sym c.requires.missing.0)

pub returns-in-Ok-insert-clause-room : goal.returns-in-Ok-insert-clause-room
returns-in-Ok-insert-clause-room c = λ t. let tx = c.args.tx in let es = c.args.lists.now.entries in let fs = c.insert.new.self.entries in let w = c.reserve.new.self in
    let after = kept_changed tx c.new.result (Some w) es fs c.new.ensures c.in-Ok-insert.ensures.updates.0 in
    let none = c.requires.missing.1 in
    room_more tx t (λ u. room_in u (rooms_of es)) (spare w) (room_in t (rooms_of fs)) (read_changed spare 0 tx (Some w) es fs after t) (omega (arith, none))

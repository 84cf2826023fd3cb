use Rattle.std.proofs.Common.{◌≡◌, false, List, [], ◌∷◌, sym, subst, ◌∙◌, arith}
use Rattle.std.specs.List.{insert as with_inserted}
use Rattle.std.specs.List.Sorted.{IsStrictlySortedBy}
use Rattle.clv_base.specs.declared.names.TxId.{TxId}
use Rattle.clv_base.specs.Orders.{tx_cmp, tx_in, tx_insert}
use Rattle.tx_table.specs.Held.{Candidates, HasRoomFor}
use Rattle.tx_table.proofs.Counting.{room_one}
use Rattle.law_base.proofs.Rising.{insert_key-rises}
use Rattle.law_base.proofs.Sets.{tx_total}
use Rattle.tx_table.proofs.candidates.Candidates.insert.Goals as goal

pub unreachable-requires : goal.unreachable-requires
unreachable-requires c =
    let tx = c.args.tx in let q = c.self.inside.txs in let i = c.self.invariant in let n = q.ok.0 in
    let held : Candidates = record { txs = q.items; limit = c.self.inside.limit } in
    let out = subst (λ (v : Candidates). tx_in tx v.txs ≡ false) (sym c.self.view_is) (sym (c.in-Err.ensures {u = tt}).there) in
    let room = room_one tx held (subst (λ (v : Candidates). HasRoomFor (tx ∷ []) v) (sym c.self.view_is) c.requires) i.0 out in
    let full = (c.in_default-insert.ensures {u = tt}).full in
    omega (arith, i.2, n, room, full)

pub invariant_of-self : goal.invariant_of-self
invariant_of-self c =
    let tx = c.args.tx in let q = c.self.inside.txs in let i = c.self.invariant in let n = q.ok.0 in
    let held : Candidates = record { txs = q.items; limit = c.self.inside.limit } in
    let out = subst (λ (v : Candidates). tx_in tx v.txs ≡ false) (sym c.self.view_is) (sym (c.in-Err.ensures {u = tt}).there) in
    let room = room_one tx held (subst (λ (v : Candidates). HasRoomFor (tx ∷ []) v) (sym c.self.view_is) c.requires) i.0 out in
    let placed = subst (λ (v : Candidates). with_inserted v.txs c.in-Err.at tx ≡ tx_insert tx v.txs) (sym c.self.view_is) (c.in-Err.ensures {u = tt}).err.1 in
    let e = c.in-Ok.ensures {u = tt} in
    (subst (λ l. IsStrictlySortedBy tx_cmp l) (sym (◌∙◌ {A = List TxId} e.items placed)) (insert_key-rises tx_total tx q.items i.0), omega (arith, e.len, n, room), omega (arith, i.2, e.capacity))

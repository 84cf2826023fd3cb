-- The rows of its successors, and no others, are told.
use Rattle.std.proofs.Common.{◌≡◌, None, List, ap, ◌∙◌, arith}
use Rattle.clv_base.specs.declared.names.TxId.{TxId}
use Rattle.clv_base.specs.Orders.{tx_get}
use Rattle.cascade_undo.specs.Dependencies.{Dependencies}
use Rattle.cascade_undo.specs.Pairs.{pairs_in}
use Rattle.cascade_undo.specs.Counts.{settled_through}
use Rattle.cascade_undo.proofs.Counting.{counted_settled}
use Rattle.cascade_undo.proofs.Listed.{listed_run}
use Rattle.cascade_undo.proofs.Turning.{kept_settled}
use Rattle.cascade_undo.proofs.deps.Deps.settle_found.Goals as goal

pub invariant_of-self : goal.invariant_of-self
invariant_of-self c =
    let k = c.self.invariant.0 in let left = c.self.invariant.1 in let pred = c.args.pred in let lsn = c.args.lsn in
    let pairs = pairs_in c.self.inside.preds.lists in let succs = c.self.inside.succs.lists in
    let commits = c.self.inside.commits.rows in let rows = c.self.inside.waits.rows in
    let room = ap (λ (v : Dependencies). v.settled_room) c.self.view_is in let one = c.set.ensures.room in let same = c.settle_rows.ensures.room in let enough = c.requires.room in
    let fresh : tx_get pred commits ≡ None = ap (λ (v : Dependencies). tx_get pred v.commits) c.self.view_is ∙ c.requires.fresh in
    let run = c.get.ensures.txs ∙ listed_run succs pred c.get.ensures.rising in
    let counted = counted_settled pairs (pairs_in succs) k.turned_round k.turned_rise commits c.set.new.self.rows rows c.settle_rows.new.rows.rows k.counted pred lsn c.set.ensures.rows fresh
    (λ t. c.settle_rows.ensures.rows t ∙ ap (λ (xs : List TxId). settled_through lsn xs t (tx_get t rows)) run) in
    (kept_settled _ _ _ _ _ _ _ k _ _ counted, (left.0, left.1, left.2, omega (arith, left.3, same), omega (arith, room, left.4, one, enough)))

-- The pair goes into both lists, and its successor's row counts it.
use Rattle.std.proofs.Common.{◌≡◌, ◌≤◌, ◌<◌, ◌+◌, Bool, false, cond, List, length, Option, ℕ, sym, ap, subst, ◌∙◌, arith}
use Rattle.std.specs.Vec.{vec_capacity}
use Rattle.clv_base.specs.declared.names.TxId.{TxId}
use Rattle.clv_base.specs.Orders.{tx_same, tx_in, pair_insert}
use Rattle.clv_base.specs.Facts.{predecessors_of}
use Rattle.clv_base.proofs.SameNames.{tx_self}
use Rattle.law_base.proofs.Rising.{length-insert_key}
use Rattle.tx_table.specs.Lists.{room_in}
use Rattle.cascade_undo.specs.Dependencies.{Dependencies}
use Rattle.cascade_undo.specs.Pairs.{pairs_in}
use Rattle.cascade_undo.specs.Counts.{AreCounted, row_at, with_one}
use Rattle.cascade_undo.proofs.Runs.{pair_total}
use Rattle.cascade_undo.proofs.Counting.{counted_more, counted_few}
use Rattle.cascade_undo.proofs.Listed.{pairs_more, listed_preds, turned_few}
use Rattle.cascade_undo.proofs.Turning.{kept_more}
use Rattle.cascade_undo.proofs.deps.Deps.add_new.Goals as goal

pub count_one-requires-clause-few : goal.count_one-requires-clause-few
count_one-requires-clause-few c =
    let tx = c.args.tx in let lists = c.self.inside.preds.lists in let rows = c.self.inside.waits.rows in
    let few = counted_few (pairs_in lists) c.self.inside.commits.rows rows tx c.self.invariant.0.counted in
    let list = ap length (c.get.ensures.txs ∙ sym (listed_preds lists tx c.get.ensures.rising)) in omega (arith, few, list)

pub invariant_of-self : goal.invariant_of-self
invariant_of-self c =
    let k = c.self.invariant.0 in let left = c.self.invariant.1 in let tx = c.args.tx in let pred = c.args.pred in
    let lists = c.self.inside.preds.lists in let pairs = pairs_in lists in let turned = pairs_in c.self.inside.succs.lists in
    let commits = c.self.inside.commits.rows in let rows = c.self.inside.waits.rows in let after = c.count_one.new.rows.rows in
    let room = ap (λ (v : Dependencies). v.places) c.self.view_is in let some = c.requires.places in
    let out : tx_in pred (predecessors_of pairs tx) ≡ false = ap (λ (v : Dependencies). tx_in pred (predecessors_of v.pairs tx)) c.self.view_is ∙ c.requires.new in
    let more = pairs_more lists c.insert.new.self.lists tx pred c.insert.ensures.lists in
    let more_turned = pairs_more c.self.inside.succs.lists c.insert-2.new.self.lists pred tx c.insert-2.ensures.lists in
    let counted : AreCounted (pairs_in c.insert.new.self.lists) commits after = subst (λ (ps : List (TxId × TxId)). AreCounted ps commits after) (sym more)
    (counted_more pairs commits rows after k.counted tx pred out
    (λ t. c.count_one.ensures.rows t ∙ ap (λ (o : Option ℕ). cond (tx_same tx t) (with_one o (row_at tx rows)) (row_at t rows)) c.get-commit.ensures)) in
    let few = turned_few pairs turned k.turned_round k.turned_rise in
    let grown = length-insert_key pair_total (pred, tx) turned in let same = ap length more_turned in
    let longer = length-insert_key pair_total (tx, pred) pairs in let now = ap length more in
    let count = left.0 in let marks = left.1 in let queue = left.2 in let third = c.count_one.ensures.room in let rows_left = left.3 in
    let marks_room : length (pairs_in c.insert-2.new.self.lists) + 1 < vec_capacity c.self.inside.marks = omega (arith, few, grown, same, count, marks, room, some) in
    let queue_room : length (pairs_in c.insert-2.new.self.lists) + 1 < vec_capacity c.self.inside.queue = omega (arith, few, grown, same, count, queue, room, some) in (
      kept_more _ _ _ _ _ _ _ k _ _ tx pred more more_turned marks_room queue_room _ counted,
      (omega (arith, longer, now, count), omega (arith, marks, room, some), omega (arith, queue, room, some), omega (arith, third, rows_left, room, some), omega (arith, left.4)),
    )

pub returns-clause-pairs : goal.returns-clause-pairs
returns-clause-pairs c = let tx = c.args.tx in let pred = c.args.pred in
    pairs_more c.self.inside.preds.lists c.insert.new.self.lists tx pred c.insert.ensures.lists ∙ ap (λ (v : Dependencies). pair_insert (tx, pred) v.pairs) c.self.view_is

pub returns-clause-ahead : goal.returns-clause-ahead
returns-clause-ahead c = let tx = c.args.tx in let now = room_in tx c.insert.new.self.rooms in
    let used = c.insert.ensures.room tx in let own = ap {B = ℕ} (λ (b : Bool). cond b 1 0) (tx_self tx) in
    subst (λ (v : Dependencies). room_in tx v.ahead ≤ now + 1) c.self.view_is (omega (arith, used, own))

pub returns-clause-behind : goal.returns-clause-behind
returns-clause-behind c = λ p other. let now = room_in p c.insert-2.new.self.rooms in
    let used = c.insert-2.ensures.room p in let none = ap {B = ℕ} (λ (b : Bool). cond b 1 0) other in
    subst (λ (v : Dependencies). room_in p v.behind ≤ now) c.self.view_is (omega (arith, used, none))

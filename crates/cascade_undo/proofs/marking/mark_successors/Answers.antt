use Rattle.std.proofs.Common.{◌≡◌, ◌≤◌, ◌+◌, ◌<◌, true, cond, ◌++◌, ◌∷◌, [], List, get_or, length, sym, ap, subst, ◌∙◌, arith}
use Rattle.std.proofs.lemmas.List.{at_drop_all}
use Rattle.clv_base.specs.declared.names.TxId.{TxId}
use Rattle.clv_base.specs.Orders.{tx_in}
use Rattle.protocol_laws.specs.UndoLaws.{is_pair}
use Rattle.law_base.proofs.Lists.{append_nil}
use Rattle.cascade_undo.specs.Pairs.{pairs_in}
use Rattle.cascade_undo.specs.Marking.{marks_with, new_marks, unmarked}
use Rattle.cascade_undo.proofs.Following.{marks_next, queue_next, marks_room, queue_room, member_at}
use Rattle.cascade_undo.proofs.Listed.{is_pair-in, listed_run}
use Rattle.cascade_undo.proofs.marking.mark_successors.Goals as goal

nobody : TxId
nobody = record { run = 0; session = 0; serial = 0 }

pub loop-next-preserved : goal.loop-next-preserved
unfolding nobody
loop-next-preserved c =
    let tx = c.args.tx in let lists = c.args.turned.now.lists in let turned = pairs_in lists in let xs = c.get-next-items.result.now in let i = c.loop-next.next-index in
    let marks = c.loop-next.marks.items in let queue = c.loop-next.queue.items in
    let within : i < length xs = c.loop-next-test.true in
    let one = get_or xs i nobody in
    let is_next : is_pair turned tx one ≡ true = is_pair-in lists tx one ∙ ap (tx_in one) (sym c.get-next-items.ensures.txs) ∙ member_at xs i nobody within in
    let marks_fit = marks_room turned tx one marks c.loop-next.invariant.rising is_next in
    let queue_fit = queue_room turned tx one marks c.loop-next.invariant.rising is_next queue in
    let marks_grow : length c.mark.new.marks.items + unmarked turned c.mark.new.marks.items ≤ length marks + unmarked turned marks =
    subst (λ l. length l + unmarked turned l ≤ length marks + unmarked turned marks) (sym c.mark.ensures.marks) marks_fit in
    let queue_grows : length c.mark.new.queue.items + unmarked turned c.mark.new.marks.items ≤ length queue + unmarked turned marks =
    subst (λ l. length l + unmarked turned c.mark.new.marks.items ≤ length queue + unmarked turned marks) (sym c.mark.ensures.queue)
    (subst (λ l. length (cond (tx_in one marks) queue (queue ++ one ∷ [])) + unmarked turned l ≤ length queue + unmarked turned marks) (sym c.mark.ensures.marks) queue_fit) in
    let marks_now = c.mark.new.marks.ok.0 in let marks_before = c.loop-next.marks.ok.0 in
    let queue_now = c.mark.new.queue.ok.0 in let queue_before = c.loop-next.queue.ok.0 in
    record {
      rising = c.mark.ensures.rising;
      marks = marks_next xs i nobody within marks _ c.mark.ensures.marks ∙ c.loop-next.invariant.marks;
      queue = queue_next xs i nobody within marks _ c.mark.ensures.marks queue _ c.mark.ensures.queue ∙ c.loop-next.invariant.queue;
      marks_capacity = c.mark.ensures.room.0 ∙ c.loop-next.invariant.marks_capacity;
      queue_capacity = c.mark.ensures.room.1 ∙ c.loop-next.invariant.queue_capacity;
      marks_room = let more = c.loop-next.invariant.marks_room in omega (arith, marks_grow, marks_now, marks_before, more);
      queue_room = let more = c.loop-next.invariant.queue_room in omega (arith, queue_grows, queue_now, queue_before, more);
    }

pub returns-clause-marks : goal.returns-clause-marks
returns-clause-marks c =
    let xs = c.get-next-items.result.now in let i = c.loop-next.next-index in let over : length xs ≤ i = omega arith in
    let run = c.get-next-items.ensures.txs ∙ listed_run c.args.turned.now.lists c.args.tx c.get-next-items.ensures.rising in
    sym (at_drop_all (λ (l : List TxId). marks_with l c.loop-next.marks.items) xs i over) ∙ c.loop-next.invariant.marks ∙ ap (λ (l : List TxId). marks_with l c.args.marks.now.items) run

pub returns-clause-queue : goal.returns-clause-queue
returns-clause-queue c =
    let xs = c.get-next-items.result.now in let i = c.loop-next.next-index in let over : length xs ≤ i = omega arith in
    let run = c.get-next-items.ensures.txs ∙ listed_run c.args.turned.now.lists c.args.tx c.get-next-items.ensures.rising in
    sym (append_nil c.loop-next.queue.items) ∙ sym (at_drop_all (λ (l : List TxId). c.loop-next.queue.items ++ new_marks l c.loop-next.marks.items) xs i over) ∙ c.loop-next.invariant.queue
    ∙ ap (λ (l : List TxId). c.args.queue.now.items ++ new_marks l c.args.marks.now.items) run

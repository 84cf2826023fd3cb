use Rattle.std.proofs.Common.{◌≡◌, ◌≤◌, ◌+◌, ◌<◌, ◌++◌, ◌∷◌, [], length, length-append, refl, sym, ap, subst, ◌∙◌, arith}
use Rattle.cascade_undo.specs.Pairs.{pairs_in}
use Rattle.cascade_undo.specs.Marking.{marks_with, new_marks}
use Rattle.cascade_undo.proofs.Members.{successors}
use Rattle.cascade_undo.proofs.Following.{Followed, followed_none, followed_more, marks_are_doomed, unmarked_most}
use Rattle.cascade_undo.proofs.marking.mark_from.Goals as goal

pub loop-next-init : goal.loop-next-init
loop-next-init c =
    let tx = c.args.tx in let turned = pairs_in c.args.turned.now.lists in
    let marks : c.push_reserved.new.self.items ≡ tx ∷ [] = c.push_reserved.ensures.items ∙ ap (λ l. l ++ tx ∷ []) c.clear.ensures.items in
    let queue : c.push_reserved-2.new.self.items ≡ tx ∷ [] = c.push_reserved-2.ensures.items ∙ ap (λ l. l ++ tx ∷ []) c.clear-2.ensures.items in
    let most = unmarked_most turned c.push_reserved.new.self.items in
    record {
      within = omega arith;
      followed = subst (λ m. Followed turned tx m c.push_reserved-2.new.self.items 0) (sym marks) (subst (λ q. Followed turned tx (tx ∷ []) q 0) (sym queue) (followed_none turned tx));
      marks_capacity = refl;
      queue_capacity = refl;
      marks_room = omega arith;
      queue_room = omega arith;
    }

pub loop-next-preserved : goal.loop-next-preserved
loop-next-preserved c =
    let tx = c.args.tx in let turned = pairs_in c.args.turned.now.lists in let n = c.loop-next.next in
    let marks = c.loop-next.marks.items in let queue = c.loop-next.queue.items in let next = c.index-followed.result.now in
    let len = c.loop-next.queue.ok.0 in
    let within : n < length queue = omega arith in
    let more : Followed turned tx (marks_with (successors next turned) marks) (queue ++ new_marks (successors next turned) marks) (n + 1) =
    subst (λ x. Followed turned tx (marks_with (successors x turned) marks) (queue ++ new_marks (successors x turned) marks) (n + 1)) (sym c.index-followed.ensures)
    (followed_more turned tx marks queue n c.loop-next.invariant.followed next within) in
    let grows : length c.mark_successors.new.queue.items ≡ length queue + length (new_marks (successors next turned) marks) = ap length c.mark_successors.ensures.queue ∙ length-append queue (new_marks (successors next turned) marks) in
    let len_now = c.mark_successors.new.queue.ok.0 in
    record {
      within = omega arith;
      followed = subst (λ m. Followed turned tx m c.mark_successors.new.queue.items (n + 1)) (sym c.mark_successors.ensures.marks)
          (subst (λ q. Followed turned tx (marks_with (successors next turned) marks) q (n + 1)) (sym c.mark_successors.ensures.queue) more);
      marks_capacity = c.mark_successors.ensures.room.0 ∙ c.loop-next.invariant.marks_capacity;
      queue_capacity = c.mark_successors.ensures.room.1 ∙ c.loop-next.invariant.queue_capacity;
      marks_room = omega arith;
      queue_room = omega arith;
    }

pub returns-clause-marks : goal.returns-clause-marks
returns-clause-marks c = λ pairs turned.
    let len = c.loop-next.queue.ok.0 in
    let all : length c.loop-next.queue.items ≤ c.loop-next.next = omega arith in
    marks_are_doomed (pairs_in c.args.turned.now.lists) c.args.tx c.loop-next.marks.items c.loop-next.queue.items c.loop-next.next c.loop-next.invariant.followed all pairs turned

use Rattle.std.proofs.Common.{◌≡◌, ◌≤◌, ◌+◌, ◌++◌, drop, vec_len, vec_capacity}
use Rattle.std.specs.List.Sorted.{IsStrictlySortedBy}
use Rattle.clv_base.specs.Orders.{tx_cmp}
use Rattle.cascade_undo.specs.Pairs.{pairs_in}
use Rattle.cascade_undo.specs.Marking.{marks_with, new_marks, unmarked}
use Rattle.cascade_undo.proofs.marking.mark_successors.Given as goal

abbrev pub invariant-loop-next : goal.invariant-loop-next
invariant-loop-next l = record {
  rising : IsStrictlySortedBy tx_cmp l.marks.items;
  marks : marks_with (drop l.next-index l.next-items) l.marks.items ≡ marks_with l.next-items l.initial.marks.items;
  queue : l.queue.items ++ new_marks (drop l.next-index l.next-items) l.marks.items ≡ l.initial.queue.items ++ new_marks l.next-items l.initial.marks.items;
  marks_capacity : vec_capacity l.marks ≡ vec_capacity l.initial.marks;
  queue_capacity : vec_capacity l.queue ≡ vec_capacity l.initial.queue;
  marks_room : vec_len l.marks + unmarked (pairs_in (l.turned).lists) l.marks.items ≤ vec_len l.initial.marks + unmarked (pairs_in (l.turned).lists) l.initial.marks.items;
  queue_room : vec_len l.queue + unmarked (pairs_in (l.turned).lists) l.marks.items ≤ vec_len l.initial.queue + unmarked (pairs_in (l.turned).lists) l.initial.marks.items;
}

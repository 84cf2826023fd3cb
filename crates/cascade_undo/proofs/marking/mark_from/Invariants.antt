use Rattle.std.proofs.Common.{◌≡◌, ◌≤◌, ◌+◌, ◌-◌, ◌<◌, vec_len, vec_capacity}
use Rattle.cascade_undo.specs.Pairs.{pairs_in}
use Rattle.cascade_undo.specs.Marking.{unmarked}
use Rattle.cascade_undo.proofs.Following.{Followed}
use Rattle.cascade_undo.proofs.marking.mark_from.Given as goal

abbrev pub invariant-loop-next : goal.invariant-loop-next
invariant-loop-next l = record {
  within : l.next ≤ vec_len l.queue;
  followed : Followed (pairs_in (l.turned).lists) l.fn.tx l.marks.items l.queue.items l.next;
  marks_capacity : vec_capacity l.marks ≡ vec_capacity l.initial.marks;
  queue_capacity : vec_capacity l.queue ≡ vec_capacity l.initial.queue;
  marks_room : vec_len l.marks + unmarked (pairs_in (l.turned).lists) l.marks.items < vec_capacity l.marks;
  queue_room : vec_len l.queue + unmarked (pairs_in (l.turned).lists) l.marks.items < vec_capacity l.queue;
}

abbrev pub decreases-loop-next : goal.decreases-loop-next
decreases-loop-next l = vec_len l.queue + unmarked (pairs_in (l.turned).lists) l.marks.items - l.next

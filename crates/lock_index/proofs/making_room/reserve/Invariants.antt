use Rattle.std.proofs.Common.{◌≡◌, ◌≤◌}
use Rattle.std.specs.List.{AllWithin}
use Rattle.clv_base.specs.declared.modes.Anchor.{Anchor}
use Rattle.lock_index.specs.Groups.{rows_of, Apart}
use Rattle.lock_index.specs.Rows.{groups, spare_on}
use Rattle.lock_index.proofs.making_room.reserve.Given as goal

abbrev pub invariant-loop-anchor : goal.invariant-loop-anchor
invariant-loop-anchor l = record {
  done : AllWithin (λ a. l.count ≤ spare_on a l.groups.entries) l.anchors 0 l.anchor-index;
  rows : rows_of (groups l.groups.entries) ≡ rows_of (groups l.initial.groups.entries);
  apart : Apart (groups l.groups.entries);
  room : (a : Anchor) → spare_on a l.initial.groups.entries ≤ spare_on a l.groups.entries;
}

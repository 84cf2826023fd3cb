use Rattle.std.proofs.Common.{◌-◌, ◌≤◌, length}
use Rattle.clv_base.specs.declared.modes.Anchor.{Anchor}
use Rattle.lock_index.specs.Groups.{rows_of, Apart}
use Rattle.lock_index.specs.Rows.{groups, spare_on}
use Rattle.lock_index.specs.Links.{nexts}
use Rattle.lock_index.specs.Closings.{Closing}
use Rattle.lock_index.proofs.closing.close.Given as goal

abbrev pub invariant-walk : goal.invariant-walk
invariant-walk l = record {
  closing : Closing (nexts l.links.entries) l.tx l.at (length l.links.entries - l.i) (rows_of (groups l.initial.groups.entries)) (rows_of (groups l.groups.entries));
  apart : Apart (groups l.groups.entries);
  room : (a : Anchor) → spare_on a l.initial.groups.entries ≤ spare_on a l.groups.entries;
}

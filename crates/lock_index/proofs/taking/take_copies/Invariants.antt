use Rattle.std.proofs.Common.{◌≡◌, ◌≤◌, ◌+◌, ◌*◌, drop, length}
use Rattle.indexmap.specs.IndexMap.{spare}
use Rattle.clv_base.specs.declared.modes.Anchor.{Anchor}
use Rattle.lock_index.specs.Groups.{rows_of}
use Rattle.lock_index.specs.Rows.{groups, spare_on}
use Rattle.lock_index.specs.Kept.{Kept, take_each}
use Rattle.lock_index.proofs.taking.take_copies.Given as goal

abbrev pub invariant-loop-holder : goal.invariant-loop-holder
invariant-loop-holder l = record {
  left : take_each l.anchor (drop l.holder-index l.copies) (rows_of (groups l.groups.entries)) ≡ take_each l.anchor l.copies (rows_of (groups l.initial.groups.entries));
  kept : Kept l.groups.entries l.links.entries;
  room : length l.copies ≤ spare_on l.anchor l.groups.entries + l.holder-index;
  spared : 2 * length l.copies ≤ spare l.links + 2 * l.holder-index;
  used : (a : Anchor) → spare_on a l.initial.groups.entries ≤ spare_on a l.groups.entries + l.holder-index;
  used_links : spare l.initial.links ≤ spare l.links + 2 * l.holder-index;
}

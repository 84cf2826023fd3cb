use Rattle.std.proofs.Common.{◌≡◌, ◌+◌, cond, length, ◌∷◌, [], false}
use Rattle.clv_base.specs.Locks.{release}
use Rattle.lock_index.specs.Groups.{rows_of}
use Rattle.lock_index.specs.Rows.{groups}
use Rattle.lock_index.specs.Kept.{Kept}
use Rattle.lock_index.proofs.giving_up.release.Given as goal

abbrev pub invariant-loop-more : goal.invariant-loop-more
invariant-loop-more l = record {
  kept : Kept l.groups.entries l.links.entries;
  left : release (l.tx ∷ []) (rows_of (groups l.groups.entries)) ≡ release (l.tx ∷ []) (rows_of (groups l.initial.groups.entries));
  done : l.more ≡ false → release (l.tx ∷ []) (rows_of (groups l.groups.entries)) ≡ rows_of (groups l.groups.entries);
}

abbrev pub decreases-loop-more : goal.decreases-loop-more
decreases-loop-more l = length (rows_of (groups l.groups.entries)) + cond l.more 1 0

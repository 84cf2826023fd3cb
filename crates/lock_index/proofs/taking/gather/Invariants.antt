use Rattle.std.proofs.Common.{◌≡◌, ◌≤◌, ◌+◌, ◌++◌, map, drop, length, vec_len, vec_capacity}
use Rattle.std.specs.List.{filter}
use Rattle.clv_base.specs.Modes.{is_held}
use Rattle.clv_base.specs.Locks.{gap_alone}
use Rattle.lock_index.proofs.taking.gather.Given as goal

abbrev pub invariant-loop-holder : goal.invariant-loop-holder
invariant-loop-holder l = record {
  left : l.copies.items ++ map gap_alone (filter (λ h. is_held (h.mode).gap) (drop l.holder-index l.holders)) ≡ map gap_alone (filter (λ h. is_held (h.mode).gap) l.holders);
  room : vec_len l.copies + length (filter (λ h. is_held (h.mode).gap) (drop l.holder-index l.holders)) ≤ vec_capacity l.copies;
  capacity : vec_capacity l.copies ≡ vec_capacity l.initial.copies;
}

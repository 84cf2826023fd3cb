-- A set of LSNs, as a test.
use Rattle.std.specs.Prelude.{◌≡◌, ℕ, Bool, List}
use Rattle.std.specs.List.{list_any}
use Rattle.std.specs.Ordering.{nat_cmp, is_eq}
use Rattle.clv_base.specs.declared.logs.LogRecord.{LogRecord}
use Rattle.clv_base.specs.Logs.{standing}
use Rattle.clv_base.specs.Checkpoints.{stands_at}
use Rattle.checkpoint_taking.specs.declared.lsns.LsnSet.{LsnSet}

-- whether the LSN is a member
abbrev pub has_lsn : LsnSet → ℕ → Bool
has_lsn s n = list_any (λ m. is_eq (nat_cmp n m)) s.members.keys

-- whether it is one of a list
abbrev pub lsn_in : ℕ → List ℕ → Bool
lsn_in n lsns = list_any (λ m. is_eq (nat_cmp m n)) lsns

-- the members are the LSNs of the writes that stand
abbrev pub StandAt : LsnSet → List LogRecord → Type 0
StandAt s log = (n : ℕ) → has_lsn s n ≡ stands_at n (standing log)

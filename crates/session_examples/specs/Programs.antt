-- What a program of a user of sessions leaves.
use Rattle.std.specs.Prelude.{◌≡◌, ⊤, ℕ, List, ◌++◌, Option, Result, Ok, Err}
use Rattle.clv_base.specs.State.{Shard}
use Rattle.clv_base.specs.Journals.{History}
use Rattle.io_model.specs.Sides.{Stories}
use Rattle.history_replay.specs.Entries.{Kept}
use Rattle.script_runs.specs.Sessions.{session_entries}
use Rattle.cluster_runs.specs.Ended.{ClusterEnded}
use Rattle.session_examples.specs.declared.transfers.Transferred.{Transferred}
use Rattle.session_examples.specs.declared.transfers.Transferred.TheVariants.{Moved, Refused, GivenUp}
use Rattle.session_examples.specs.declared.transfers.Stop.{Stop}
use Rattle.session_examples.specs.Moves.{Moves}

-- the disks of a house held logs that may be opened together, under these splits; what the shards did from there on is a legal history to whatever they may
-- leave, each disk holds its shard's records, and a disk's count rose exactly where a flush failed. P is of the splits and of each walker's own entries
pub record HasRun (before now : ℕ → Option Stories) (counts counts_now : ℕ → ℕ) (kept : Kept) (P : List ℕ → (ℕ → History) → Type 0) : Type 0 where
  pub splits : List ℕ
  pub states : ℕ → Shard
  pub own_of : ℕ → History
  pub ended : ClusterEnded splits before now counts counts_now kept states own_of
  pub made : P splits own_of

-- the last entries of session 1 are those of the transfer, where it was moved
abbrev pub HasMade : ℕ → ℕ → ℕ → Result Transferred Stop → List ℕ → (ℕ → History) → Type 0
HasMade from to amount (Ok Moved) splits own_of = (earlier es : History) × (session_entries (own_of 1) ≡ earlier ++ es) × Moves splits from to amount es
HasMade from to amount (Ok (Refused why)) splits own_of = ⊤
HasMade from to amount (Ok (GivenUp cause)) splits own_of = ⊤
HasMade from to amount (Err stop) splits own_of = ⊤

-- nothing more is said
abbrev pub AnyMade : List ℕ → (ℕ → History) → Type 0
AnyMade splits own_of = ⊤

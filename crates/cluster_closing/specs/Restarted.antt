-- What a restart by a walker tells.
use Rattle.std.specs.Prelude.{◌≡◌, ℕ, None, List, Option, Result, Err}
use Rattle.clv_base.specs.declared.logs.LogRecord.{LogRecord}
use Rattle.clv_base.specs.Restarts.{first_barred}
use Rattle.io_model.specs.Sides.{Stories}
use Rattle.turn_lock.specs.declared.pass.Pass.{Pass}
use Rattle.machine_laws.specs.declared.notes.Note.{Note}
use Rattle.machine_laws.specs.declared.notes.Origin.{Origin}
use Rattle.cluster_turns.specs.Walkers.{Walked}
use Rattle.cluster_closing.specs.declared.fetching.Fetched.{Fetched}
use Rattle.cluster_closing.specs.declared.error.RestartError.{RestartError}
use Rattle.cluster_closing.specs.Judging.{RefusesDisk}
use Rattle.cluster_closing.specs.Left.{WasRead}
use Rattle.cluster_closing.specs.Revived.{ReviveTold}

-- the disk was refused with no turn, or there was one turn: with the log that was read, which is in order and doesn't bar a restart
pub data RestartTold {T D : Type 0} (story : D → Option Stories) (splits : List ℕ) (run : ℕ) (f : Fetched D) (w clock : ℕ) (before : List (Option (Pass T Note Origin))) : Result ℕ (RestartError × Fetched D) → ℕ → List (Option (Pass T Note Origin)) → Type 0 where
  no_turn : {e : RestartError} {g : Fetched D} → RefusesDisk splits f.shard run f.epoch (story f.disk) e → RestartTold story splits run f w clock before (Err (e, g)) clock before
  one_turn :
      {r : Result ℕ (RestartError × Fetched D)} {clock' : ℕ} {after : List (Option (Pass T Note Origin))} (epoch : ℕ) (found : List LogRecord) → WasRead (story f.disk) f.shard (record { splits = splits }) found → first_barred run found ≡ None
      → Walked (ReviveTold clock w epoch found r clock') f.shard w before after → RestartTold story splits run f w clock before r clock' after

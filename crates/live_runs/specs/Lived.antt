-- What the history of live sessions promises.
use Rattle.std.specs.Prelude.{◌≡◌, ◌⊎◌, ◌<◌, ◌≤◌, ◌+◌, ◌-◌, ◌^◌, ℕ, zero, suc, true, false, List, [], length, Option, None, Result, Ok}
use Rattle.std.specs.List.{Contains}
use Rattle.clv_base.specs.declared.ops.Op.{Op}
use Rattle.clv_base.specs.declared.ops.Answer.{Answer}
use Rattle.clv_base.specs.Shards.{shard_count}
use Rattle.clv_base.specs.History.{acknowledged_in}
use Rattle.clv_base.specs.FileRules.{may_open}
use Rattle.clv_base.specs.Restarts.{run_after}
use Rattle.clv_base.specs.Journals.{History, journal_of, own}
use Rattle.io_model.specs.Sides.{Stories}
use Rattle.io_model.specs.Streams.{Ends, Consumes}
use Rattle.io_model.specs.Disk.{Rose}
use Rattle.cluster_opening.specs.Logs.{LogsOfAll}
use Rattle.history_replay.specs.Entries.{Kept}
use Rattle.machine_laws.specs.Homes.{has_failed}
use Rattle.cluster_runs.specs.Histories.{entries, Keeps}
use Rattle.cluster_runs.specs.Ended.{runs_on}
use Rattle.cluster_runs.specs.Drained.{WasDrained, IsQuietAtEnd}
use Rattle.cluster_runs.specs.Statuses.{DisksTold, FlushesTold, last_stamp}
use Rattle.command_line.specs.declared.status.Status.{Status}
use Rattle.command_line.specs.declared.status.Status.TheVariants.{Fine, Worn}
use Rattle.io_model.specs.declared.whole.ReadError.{ReadError}
use Rattle.report_text.specs.declared.texts.ReportError.{ReportError}
use Rattle.live_lines.specs.declared.calls.Reply.TheVariants.{Answered, Committed}
use Rattle.live_lines.specs.declared.calls.Refusal.{Refusal}
use Rattle.script_runs.specs.Seen.{Idle, Seen}
use Rattle.script_runs.specs.Sessions.{session_entries}
use Rattle.live_sessions.specs.Replies.{HasOperated}
use Rattle.live_streams.specs.Outputs.{TookReplies}
use Rattle.live_threads.specs.Lives.{Life, HasLived, TookRequests, TookAllRequests, replies_in}

-- a walker that has made nothing yet, of this run
pub record IsNew (splits : List ℕ) (run walker : ℕ) (u : Seen) : Type 0 where
  pub splits_are : u.splits ≡ splits
  pub run_is : u.run ≡ run
  pub walker_is : u.walker ≡ walker
  pub entries_are : u.entries ≡ []
  pub serial_is : u.serial ≡ 0
  pub standing_is : u.standing ≡ Idle None

-- the entries that a session's walker made are those of the calls that its lines ask for, in order, and of its end; each reply is that of its call, or a
-- refusal for its cause
pub record Lived (splits : List ℕ) (run walker : ℕ) (life : Life) (es : History) : Type 0 where
  pub first : Seen
  pub closed : Seen
  pub new : IsNew splits run walker first
  pub lived : HasLived life first closed
  pub entries_are : closed.entries ≡ es

-- the promise of a run, with what its sessions did in the place of a script
pub record LivesPromised (splits : List ℕ) (before now : ℕ → Option Stories) (counts counts_now : ℕ → ℕ) (sessions : ℕ) (lives : ℕ → Life) (kept : Kept) : Type 0 where
  -- the history is legal, and keeps the whole promise, as of `run`
  pub keeps : Keeps splits before now kept
  pub each : (k : ℕ) → k < sessions → Lived splits (run_after kept.found) (suc k) (lives (suc k)) (session_entries (own (suc k) (entries kept)))
  pub others : (walker : ℕ) → (walker ≡ 0) ⊎ (sessions < walker) → session_entries (own walker (entries kept)) ≡ []
  pub rose : (n : ℕ) → n < shard_count splits → has_failed (journal_of n (entries kept)) ≡ true → Rose (counts n) (counts_now n)
  pub stands : (n : ℕ) → n < shard_count splits → has_failed (journal_of n (entries kept)) ≡ false → counts_now n ≡ counts n
  pub on : (n : ℕ) → n < shard_count splits → runs_on (journal_of n (entries kept)) ≡ true

-- a reply "committed" is of a transaction that the history acknowledges
abbrev pub CommittedAreAcknowledged : ℕ → ℕ → (ℕ → Life) → Kept → Type 0
CommittedAreAcknowledged run sessions lives kept =
    (k serial : ℕ) → k < sessions → Contains (lives (suc k)).replies (Committed serial) → acknowledged_in (entries kept) (record { run = run; session = suc k; serial = serial }) ≡ true

-- an answer is that of an operation of its session in the history: of all its parts, put together
abbrev pub AnswersAreEntries : List ℕ → ℕ → (ℕ → Life) → Kept → Type 0
AnswersAreEntries splits sessions lives kept =
    (k : ℕ) (op : Op) (answer : Answer) → k < sessions → Contains (lives (suc k)).replies (Answered op answer) → HasOperated splits op answer (session_entries (own (suc k) (entries kept)))

-- so it is wherever sessions lived so
abbrev pub RepliesAreInHistory : Type 0
RepliesAreInHistory =
    (splits : List ℕ) (before now : ℕ → Option Stories) (counts counts_now : ℕ → ℕ) (sessions : ℕ) (lives : ℕ → Life) (kept : Kept) → LivesPromised splits before now counts counts_now sessions lives kept
    → CommittedAreAcknowledged (run_after kept.found) sessions lives kept × AnswersAreEntries splits sessions lives kept

-- how many lines so many sessions took, from one on
abbrev pub lines_from : ℕ → ℕ → (ℕ → Life) → ℕ
lines_from first zero lives = 0
lines_from first (suc more) lives = length (lives first).asked + lines_from (suc first) more lives

-- ---- all of it

pub record ServedAll (before now : ℕ → Option Stories) (counts counts_now : ℕ → ℕ) (sessions : ℕ) (left left' taken taken' : Option (List ℕ)) (read : Result (Unit {0}) ReadError) (written : Result (Unit {0}) ReportError) (kept : Kept) (status : Status) : Type 0 where
  pub splits : List ℕ
  pub lives : ℕ → Life
  pub refused : List Refusal
  -- the logs found are those that the disks held, under these splits, and may be opened together
  pub held : LogsOfAll splits kept.found before
  pub opens : may_open splits kept.found ≡ true
  -- the promise
  pub promised : LivesPromised splits before now counts counts_now sessions lives kept
  pub acknowledged : CommittedAreAcknowledged (run_after kept.found) sessions lives kept
  pub answers : AnswersAreEntries splits sessions lives kept
  -- the lines that sessions took are the input's, and what the sink took are their replies
  pub took : (bytes : List ℕ) × Consumes left left' bytes × TookRequests sessions lives bytes refused
  pub told : TookReplies sessions (replies_in lives refused) taken taken' written
  -- where all was fine, and nothing failed, the input was read to its end, and each line of a session was done, or refused for its cause (as for want of
  -- memory for its text), and has its reply
  pub all : status ≡ Fine → read ≡ Ok (tt {0}) → written ≡ Ok (tt {0}) → (bytes : List ℕ) × Ends left left' bytes × TookAllRequests sessions lives bytes refused
  -- what the status tells of disks and flushes; at worn stamps an entry has one so near their end that no more than the sessions' lines are between
  pub disks : DisksTold (shard_count splits) counts counts_now status
  pub flushes : FlushesTold (shard_count splits) (λ n. has_failed (journal_of n (entries kept))) status
  pub worn : (at : ℕ) → status ≡ Worn at → 2 ^ 48 - 1 ≤ last_stamp (entries kept) + lines_from 1 sessions lives
  -- settled before the sessions, and quiet behind them
  pub drained : (k : ℕ) → k < sessions → (lives (suc k)).asked ≡ [] ⊎ ((n : ℕ) → n < shard_count splits → WasDrained n kept)
  pub quiet : status ≡ Fine → (n : ℕ) → n < shard_count splits → IsQuietAtEnd n kept
  pub shards : length kept.journals ≡ shard_count splits
  pub others : (n : ℕ) → shard_count splits ≤ n → (now n ≡ before n) × (counts_now n ≡ counts n)

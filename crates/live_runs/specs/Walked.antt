-- What the walkers of live sessions made.
use Rattle.std.specs.Prelude.{◌≡◌, ◌⊎◌, ℕ, suc, ◌+◌, ◌<◌, ◌≤◌, max, List, [], length, slice_index_or, Option, Result, Ok, IfErr}
use Rattle.std.specs.List.{AllByRecursion}
use Rattle.io_model.specs.Streams.{Ends, Consumes}
use Rattle.io_model.specs.declared.whole.ReadError.{ReadError}
use Rattle.report_text.specs.declared.texts.ReportError.{ReportError}
use Rattle.cluster_opening.specs.Made.{IsNewWalker}
use Rattle.cluster_turns.specs.declared.shards.Shards.{Shards}
use Rattle.cluster_turns.specs.declared.shards.Walker.{Walker}
use Rattle.cluster_turns.specs.Walkers.{kept}
use Rattle.cluster_turns.specs.Dates.{last_seen}
use Rattle.command_line.specs.Running.{End, IsOk}
use Rattle.session_api.specs.declared.progress.Progress.{Progress}
use Rattle.session_api.specs.declared.progress.Progress.TheVariants.{Idle}
use Rattle.session_api.specs.Standing.{HoldsSaves, IsAtRest}
use Rattle.session_api.specs.Grounds.{Grounds}
use Rattle.script_lang.specs.Savepoints.{Savepoints}
use Rattle.script_runs.specs.Sessions.{session_entries}
use Rattle.cluster_runs.specs.Drained.{WasSettled}
use Rattle.live_lines.specs.declared.calls.Refusal.{Refusal}
use Rattle.live_streams.specs.Outputs.{TookReplies}
use Rattle.live_threads.specs.Lives.{Life, TookRequests, TookAllRequests, replies_in}
use Rattle.live_runs.specs.Lived.{Lived}

module _ {M S G : Type 0} where
  -- the session of place k, before it has begun, whose walker has this clock
  pub record IsPlaced (sh : Shards M S G) (clock k : ℕ) (shards : Shards M S G) (w : Walker M S G) (s : Progress) (saves : List ℕ) (script : Savepoints) : Type 0 where
    pub on : shards ≡ sh
    pub new : IsNewWalker sh (suc k) clock w
    pub none_begun : s ≡ Idle
    pub holds : HoldsSaves sh w s saves script

  -- what the walker of place k made, once its session has ended; all of it past that clock, from which its own rose by no more than one for each line
  pub record HasWalked (sh : Shards M S G) (clock k : ℕ) (life : Life) (w : Walker M S G) (end : End) : Type 0 where
    pub rest : IsAtRest sh (suc k) w
    pub lived : Lived sh.splits sh.run (suc k) life (session_entries (kept w.passes.items))
    pub few : w.serial ≤ length life.asked
    pub dated : w.clock ≤ w.serial + max clock (last_seen w.passes.items)
    pub grounds : IfErr end (Grounds w)
    pub later : AllByRecursion (λ e. clock < (e.1).stamp) (session_entries (kept w.passes.items))

  -- what the walkers of so many sessions made, and what went in and out
  pub record HaveLived (sh : Shards M S G) (sessions : ℕ) (walkers : List (Walker M S G)) (lives : ℕ → Life) (left left' taken taken' : Option (List ℕ)) (read : Result (Unit {0}) ReadError) (written : Result (Unit {0}) ReportError) (end : End) : Type 0 where
    pub refused : List Refusal
    pub each : (k : ℕ) (d : Walker M S G) → k < sessions → Lived sh.splits sh.run (suc k) (lives (suc k)) (session_entries (kept (slice_index_or walkers (suc k) d).passes.items))
    -- walker 0 began no transaction, and each session no more than it had lines
    pub none : (d : Walker M S G) → (slice_index_or walkers 0 d).serial ≡ 0
    pub few : (k : ℕ) (d : Walker M S G) → k < sessions → (slice_index_or walkers (suc k) d).serial ≤ length (lives (suc k)).asked
    pub took : (bytes : List ℕ) × Consumes left left' bytes × TookRequests sessions lives bytes refused
    pub told : TookReplies sessions (replies_in lives refused) taken taken' written
    pub all : IsOk end → read ≡ Ok (tt {0}) → written ≡ Ok (tt {0}) → (bytes : List ℕ) × Ends left left' bytes × TookAllRequests sessions lives bytes refused

  -- no session took a line; or walker 0 had seen each shard settled before. All that sessions made has stamps past that
  pub record AreDrained (sh : Shards M S G) (sessions : ℕ) (walkers : List (Walker M S G)) (lives : ℕ → Life) : Type 0 where
    pub clock : ℕ
    pub settled : ((k : ℕ) → k < sessions → (lives (suc k)).asked ≡ []) ⊎ ((n : ℕ) (d : Walker M S G) → n < length sh.locks.items → WasSettled n clock (slice_index_or walkers 0 d).passes.items)
    pub later : (k : ℕ) (d : Walker M S G) → k < sessions → AllByRecursion (λ e. clock < (e.1).stamp) (session_entries (kept (slice_index_or walkers (suc k) d).passes.items))

-- What live sessions did, and what went in and out.
use Rattle.std.specs.Prelude.{◌≡◌, ◌<◌, ℕ, zero, suc, List, ◌++◌, map, length, slice_index_or, Option, Result, Ok}
use Rattle.io_model.specs.Streams.{Ends, Consumes}
use Rattle.io_model.specs.declared.whole.ReadError.{ReadError}
use Rattle.report_text.specs.declared.texts.ReportError.{ReportError}
use Rattle.live_lines.specs.declared.calls.Asked.{Asked}
use Rattle.live_lines.specs.declared.calls.Reply.{Reply}
use Rattle.live_lines.specs.declared.calls.Reply.TheVariants.{Refused}
use Rattle.live_lines.specs.declared.calls.Refusal.{Refusal}
use Rattle.script_runs.specs.Seen.{Seen, Going}
use Rattle.live_sessions.specs.declared.answering.Course.{Course}
use Rattle.live_sessions.specs.Served.{Served, Closes}
use Rattle.live_streams.specs.Inputs.{TookInput, TookAllInput, of_session}
use Rattle.live_streams.specs.Outputs.{TookReplies}
use Rattle.live_threads.specs.declared.seats.Place.{Place}

-- what a session did: the lines that it took, and its replies
pub record Life : Type 0 where
  pub asked : List Asked
  pub replies : List Reply

-- it went from the one to the other by its lines, each with its reply, and its end
pub record HasLived (life : Life) (first closed : Seen) : Type 0 where
  pub last : Seen
  pub course : Course
  pub over : Option Going
  pub served : Served life.asked life.replies first course last over
  pub closes : Closes course last closed

-- each session took a front of its lines of what was read, or all of them
pub record TookRequests (sessions : ℕ) (lives : ℕ → Life) (bytes : List ℕ) (refused : List Refusal) : Type 0 where
  pub handed : List (ℕ × Asked)
  pub input : TookInput sessions bytes handed refused
  pub fronts : (k : ℕ) → k < sessions → (rest : List Asked) × (of_session (suc k) handed ≡ (lives (suc k)).asked ++ rest)

abbrev pub TookAllRequests : ℕ → (ℕ → Life) → List ℕ → List Refusal → Type 0
TookAllRequests sessions lives bytes refused = (handed : List (ℕ × Asked)) × TookAllInput sessions bytes handed refused × ((k : ℕ) → k < sessions → of_session (suc k) handed ≡ (lives (suc k)).asked)

-- the replies of each session, and at 0 the reader's
abbrev pub replies_in : (ℕ → Life) → List Refusal → ℕ → List Reply
replies_in lives refused zero = map Refused refused
replies_in lives refused (suc k) = (lives (suc k)).replies

-- what went in and out, of so many sessions
pub record Streamed (sessions : ℕ) (lives : ℕ → Life) (left left' taken taken' : Option (List ℕ)) (read : Result (Unit {0}) ReadError) (written : Result (Unit {0}) ReportError) : Type 0 where
  pub refused : List Refusal
  -- the lines that sessions took are the input's, and what the sink took are the lines of replies
  pub took : (bytes : List ℕ) × Consumes left left' bytes × TookRequests sessions lives bytes refused
  pub told : TookReplies sessions (replies_in lives refused) taken taken' written
  -- where nothing failed, the input was read to its end, and each line of a session was done, or refused for its cause, and has its reply
  pub all : read ≡ Ok (tt {0}) → written ≡ Ok (tt {0}) → (bytes : List ℕ) × Ends left left' bytes × TookAllRequests sessions lives bytes refused

-- each place's session lived so
abbrev pub HaveLived : {S : Type 0} → (S → Seen) → List (Place S) → List (Place S) → (ℕ → Life) → Type 0
HaveLived {S} seen old new lives = (k : ℕ) (d : Place S) → k < length old → HasLived (lives (suc k)) (seen (slice_index_or old k d).session) (seen (slice_index_or new k d).session)

-- A shard is restarted with a prepared transaction and a loser, which inserted past its write: the first restart fails once all its records are written.
use Rattle.std.specs.Prelude.{◌≡◌, true, false, List, [], ◌∷◌, ◌++◌, Some, None}
use Rattle.clv_base.specs.declared.values.Value.TheVariants.{Num}
use Rattle.clv_base.specs.declared.names.TxId.{TxId}
use Rattle.clv_base.specs.declared.ops.Op.TheVariants.{Put}
use Rattle.clv_base.specs.declared.ops.Answer.TheVariants.{Value}
use Rattle.clv_base.specs.declared.causes.Vote.TheVariants.{Yes}
use Rattle.clv_base.specs.declared.messages.Message.TheVariants.{Prepare, Vote as VoteMessage}
use Rattle.clv_base.specs.declared.logs.LogRecord.{LogRecord}
use Rattle.clv_base.specs.declared.logs.LogRecord.TheVariants.{Update, Clr, Prepare as PrepareRecord, Commit, Abort, Restart as RestartRecord}
use Rattle.clv_base.specs.declared.events.Event.TheVariants.{Op as OpEvent, Request, Look, Send, Deliver, FlushOut, FlushIn, Stop, Restart}
use Rattle.clv_base.specs.declared.events.Outcome.TheVariants.{Answered, Asked, Acknowledged, Sent, Taken, Out, Durable, Stopped, Up}
use Rattle.clv_base.specs.declared.state.Stage.TheVariants.{Closed}
use Rattle.clv_base.specs.Undo.{stage_of}
use Rattle.clv_base.specs.Logs.{stands, in_doubt}
use Rattle.clv_base.specs.LogRules.{log_of}
use Rattle.clv_base.specs.FileRules.{may_open}
use Rattle.clv_base.specs.Journals.{History, final_of}
use Rattle.clv_base.specs.History.{Legal, Member, logs_left}
use Rattle.history_laws.specs.Openings.{LegalFrom}
use Rattle.history_laws.specs.Continuing.{serial_left}
use Rattle.history_examples.specs.Noted.{splits, new_logs, tx, born, writer, on_0, on_1}
use Rattle.history_examples.specs.Playing.{operated}

abbrev pub loser : TxId
loser = tx 1 2

-- up to the stop of the shard that voted yes
abbrev pub down : History
down =
    on_0 2 1 (OpEvent writer (born 1 1) 1 None (Put 3 (Num 30))) (Answered (Value None) 0)
    ∷ on_1 3 1 (OpEvent writer (born 1 1) 2 None (Put 5 (Num 50))) (Answered (Value None) 0)
    ∷ on_0 4 1 (Request writer ((0, 0) ∷ (1, 0) ∷ [])) Asked
    ∷ on_0 5 0 Send (Sent (Prepare 1 writer 0 0))
    ∷ on_1 6 0 (Deliver (Prepare 1 writer 0 0) 5) Taken
    ∷ on_1 7 2 (OpEvent loser (born 2 2) 1 None (Put 7 (Num 70))) (Answered (Value None) 0)
    ∷ on_1 8 0 FlushOut (Out 4)
    ∷ on_1 9 0 FlushIn (Durable 4)
    ∷ on_1 10 0 Send (Sent (VoteMessage 0 writer 1 Yes))
    ∷ on_1 11 0 Stop Stopped
    ∷ []

-- its restart, and the commit at the home
abbrev pub restarted : History
restarted =
    down
    ++ on_1 12 0 Restart (Up 2)
    ∷ on_0 13 0 (Deliver (VoteMessage 0 writer 1 Yes) 10) Taken
    ∷ on_0 14 0 FlushOut (Out 4)
    ∷ on_0 15 0 FlushIn (Durable 4)
    ∷ on_0 16 1 (Look writer) Acknowledged
    ∷ []

-- what the shard has durable when it stops
abbrev pub stopped_log : List LogRecord
stopped_log = RestartRecord 1 0 ∷ Update writer 5 None (Some (Num 50)) ∷ PrepareRecord writer 0 [] ∷ Update loser 7 None (Some (Num 70)) ∷ []

-- what the first restart leaves: all that it was to write
abbrev pub failed_log : List LogRecord
failed_log = stopped_log ++ Abort loser ∷ Clr loser None 7 None ∷ RestartRecord 1 1 ∷ []

abbrev pub restarted_logs : List (List LogRecord)
restarted_logs =
    (RestartRecord 1 0 ∷ Update writer 3 None (Some (Num 30)) ∷ PrepareRecord writer 0 [] ∷ Commit writer (1 ∷ []) ∷ []) ∷ (failed_log ++ RestartRecord 1 2 ∷ []) ∷ []

-- the shard is down at the end, behind a restart that failed after the loser's ABORT
abbrev pub down_logs : List (List LogRecord)
down_logs = (RestartRecord 1 0 ∷ []) ∷ (stopped_log ++ Abort loser ∷ []) ∷ []

abbrev pub RestartedIsLegal : Type 0
RestartedIsLegal = LegalFrom splits new_logs restarted restarted_logs

abbrev pub restarted_member : Member
restarted_member = record { tx = writer; point = record { stamp = 4; shard = 0 }; acts = operated 1 ((Put 3 (Num 30), Value None) ∷ (Put 5 (Num 50), Value None) ∷ []) }

-- the writer is in doubt on the shard that was restarted, and a member; the loser, which depended on it, is gone
abbrev pub RestartedHasMember : Type 0
RestartedHasMember =
    (serial_left splits new_logs restarted restarted_logs (λ n. false) ≡ restarted_member ∷ []) × (in_doubt 1 (log_of restarted_logs 1) ≡ writer ∷ [])
    × (stage_of (final_of new_logs restarted restarted_logs 1).local writer ≡ Some Closed) × (stage_of (final_of new_logs restarted restarted_logs 1).local loser ≡ None)
    × (stands restarted_logs ≡ (3, Num 30) ∷ (5, Num 50) ∷ []) × (may_open splits (logs_left splits new_logs restarted restarted_logs (λ n. false)) ≡ true)

abbrev pub DownIsLegal : Type 0
DownIsLegal = Legal splits new_logs down down_logs

-- nobody is a member; the logs, with the bare ABORT, may be opened, with the writer in doubt, and stand for nothing
abbrev pub DownMayBeOpened : Type 0
DownMayBeOpened =
    (serial_left splits new_logs down down_logs (λ n. false) ≡ []) × (may_open splits down_logs ≡ true) × (in_doubt 1 (log_of down_logs 1) ≡ writer ∷ [])
    × (stands down_logs ≡ []) × ((final_of new_logs down down_logs 1).is_up ≡ false)

-- The logs that the crash left are opened: the transaction is in doubt on shard 1, another one reads its write there, and its commit comes.
use Rattle.std.specs.Prelude.{◌≡◌, true, false, List, [], ◌∷◌, ◌++◌, Some, None}
use Rattle.clv_base.specs.declared.values.Value.TheVariants.{Num}
use Rattle.clv_base.specs.declared.names.TxId.{TxId}
use Rattle.clv_base.specs.declared.ops.Op.TheVariants.{Get}
use Rattle.clv_base.specs.declared.ops.Answer.TheVariants.{Value}
use Rattle.clv_base.specs.declared.messages.Message.TheVariants.{Decide, Done}
use Rattle.clv_base.specs.declared.logs.LogRecord.{LogRecord}
use Rattle.clv_base.specs.declared.logs.LogRecord.TheVariants.{Commit, End, Restart as RestartRecord}
use Rattle.clv_base.specs.declared.events.Event.TheVariants.{Op as OpEvent, Request, Look, Send, Deliver, Remind, FlushOut, FlushIn}
use Rattle.clv_base.specs.declared.events.Outcome.TheVariants.{Answered, Asked, Acknowledged, Sent, Taken, Reminded, Out, Durable}
use Rattle.clv_base.specs.Maps.{replay_map, replay_answers}
use Rattle.clv_base.specs.Logs.{stands, in_doubt, committed_somewhere}
use Rattle.clv_base.specs.LogRules.{log_of}
use Rattle.clv_base.specs.Needs.{live_pairs}
use Rattle.clv_base.specs.Journals.{History, start_of, final_of, journal_of, predecessors_in}
use Rattle.clv_base.specs.History.{Member, serial_acts, serial_answers, IsSettled}
use Rattle.history_laws.specs.Openings.{LegalFrom}
use Rattle.history_laws.specs.Continuing.{serial_left}
use Rattle.history_examples.specs.Noted.{splits, tx, born, writer, on_0, on_1}
use Rattle.history_examples.specs.Committed.{home_log, part_log, wide_logs}
use Rattle.history_examples.specs.Playing.{operated}

abbrev pub reader : TxId
reader = tx 2 1

abbrev pub reopened : History
reopened =
    on_1 2 1 (OpEvent reader (born 1 1) 1 None (Get 5)) (Answered (Value (Some (Num 50))) 0)
    ∷ on_1 3 1 (Request reader ((1, 0) ∷ [])) Asked
    ∷ on_0 4 0 Remind (Reminded 1)
    ∷ on_0 5 0 Send (Sent (Decide 1 writer 0 true))
    ∷ on_1 6 0 (Deliver (Decide 1 writer 0 true) 5) Taken
    ∷ on_1 7 0 FlushOut (Out 5)
    ∷ on_1 8 0 FlushIn (Durable 5)
    ∷ on_1 9 1 (Look reader) Acknowledged
    ∷ on_1 10 0 Send (Sent (Done 0 writer 1))
    ∷ on_0 11 0 (Deliver (Done 0 writer 1) 10) Taken
    ∷ on_0 12 0 FlushOut (Out 6)
    ∷ on_0 13 0 FlushIn (Durable 6)
    ∷ []

abbrev pub reopened_logs : List (List LogRecord)
reopened_logs = (home_log ++ RestartRecord 2 0 ∷ End writer ∷ []) ∷ (part_log ++ RestartRecord 2 0 ∷ Commit writer [] ∷ []) ∷ []

abbrev pub ReopenedIsLegal : Type 0
ReopenedIsLegal = (in_doubt 1 (log_of wide_logs 1) ≡ writer ∷ []) × LegalFrom splits wide_logs reopened reopened_logs

abbrev pub reader_member : Member
reader_member = record { tx = reader; point = record { stamp = 3; shard = 1 }; acts = operated 1 ((Get 5, Value (Some (Num 50))) ∷ []) }

-- the reader is the one member, and replays; its predecessor was committed at opening
abbrev pub ReopenedHasMember : Type 0
ReopenedHasMember =
    (serial_left splits wide_logs reopened reopened_logs (λ n. false) ≡ reader_member ∷ [])
    × (replay_answers (stands wide_logs) (serial_acts (reader_member ∷ [])) ≡ serial_answers (reader_member ∷ []))
    × (replay_map (stands wide_logs) (serial_acts (reader_member ∷ [])) ≡ stands reopened_logs)
    × (predecessors_in (log_of reopened_logs 1) (start_of wide_logs 1) reader (journal_of 1 reopened) ≡ writer ∷ []) × (committed_somewhere wide_logs writer ≡ true)
    × (stands wide_logs ≡ (3, Num 30) ∷ (5, Num 50) ∷ []) × (stands reopened_logs ≡ (3, Num 30) ∷ (5, Num 50) ∷ [])

-- nothing is left to do, and the live records of both shards, one after the other, are that map
abbrev pub ReopenedIsSettled : Type 0
ReopenedIsSettled =
    IsSettled splits wide_logs reopened reopened_logs
    × (live_pairs (final_of wide_logs reopened reopened_logs 0).local.records ++ live_pairs (final_of wide_logs reopened reopened_logs 1).local.records ≡ stands reopened_logs)

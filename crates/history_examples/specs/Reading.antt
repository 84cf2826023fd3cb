-- A transaction reads on two shards what another one wrote there, and is acknowledged without a COMMIT of its own; then the writer's session goes on.
use Rattle.std.specs.Prelude.{◌≡◌, true, false, List, [], ◌∷◌, ◌++◌, Some, None}
use Rattle.clv_base.specs.declared.values.Value.TheVariants.{Num}
use Rattle.clv_base.specs.declared.names.TxId.{TxId}
use Rattle.clv_base.specs.declared.names.Birth.{Birth}
use Rattle.clv_base.specs.declared.ops.Op.TheVariants.{Get, Put}
use Rattle.clv_base.specs.declared.ops.Answer.TheVariants.{Value}
use Rattle.clv_base.specs.declared.causes.Vote.TheVariants.{Yes, Read}
use Rattle.clv_base.specs.declared.messages.Message.TheVariants.{Prepare, Vote as VoteMessage, Decide, Done}
use Rattle.clv_base.specs.declared.logs.LogRecord.{LogRecord}
use Rattle.clv_base.specs.declared.logs.LogRecord.TheVariants.{Update, Prepare as PrepareRecord, Commit, End, Restart as RestartRecord}
use Rattle.clv_base.specs.declared.events.Event.TheVariants.{Op as OpEvent, Request, Look, Send, Deliver, FlushOut, FlushIn}
use Rattle.clv_base.specs.declared.events.Outcome.TheVariants.{Answered, Asked, Acknowledged, Sent, Taken, Out, Durable}
use Rattle.clv_base.specs.Maps.{replay_map, replay_answers}
use Rattle.clv_base.specs.Logs.{stands, committed_somewhere}
use Rattle.clv_base.specs.LogRules.{log_of}
use Rattle.clv_base.specs.Journals.{History, start_of, journal_of, predecessors_in}
use Rattle.clv_base.specs.History.{Legal, Member, acknowledged_in, serial_acts, serial_answers}
use Rattle.history_laws.specs.Continuing.{serial_left}
use Rattle.history_examples.specs.Noted.{splits, new_logs, tx, born, writer, on_0, on_1}
use Rattle.history_examples.specs.Playing.{operated}

abbrev pub reader : TxId
reader = tx 1 2

-- the second transaction of the writer's session
abbrev pub second : TxId
second = record { run = 1; session = 1; serial = 2 }

abbrev pub second_born : Birth
second_born = record { stamp = 27; session = 1; serial = 2 }

-- both have made their requests, and the writer's COMMIT is buffered at its home
abbrev pub so_far : History
so_far =
    on_0 2 1 (OpEvent writer (born 1 1) 1 None (Put 3 (Num 30))) (Answered (Value None) 0)
    ∷ on_1 3 1 (OpEvent writer (born 1 1) 2 None (Put 5 (Num 50))) (Answered (Value None) 0)
    ∷ on_0 4 1 (Request writer ((0, 0) ∷ (1, 0) ∷ [])) Asked
    ∷ on_0 5 0 Send (Sent (Prepare 1 writer 0 0))
    ∷ on_1 6 0 (Deliver (Prepare 1 writer 0 0) 5) Taken
    ∷ on_0 7 2 (OpEvent reader (born 2 6) 1 None (Get 3)) (Answered (Value (Some (Num 30))) 0)
    ∷ on_1 8 2 (OpEvent reader (born 2 6) 2 None (Get 5)) (Answered (Value (Some (Num 50))) 0)
    ∷ on_0 9 2 (Request reader ((0, 0) ∷ (1, 0) ∷ [])) Asked
    ∷ on_0 10 0 Send (Sent (Prepare 1 reader 0 0))
    ∷ on_1 11 0 (Deliver (Prepare 1 reader 0 0) 10) Taken
    ∷ on_1 12 0 FlushOut (Out 3)
    ∷ on_1 13 0 FlushIn (Durable 3)
    ∷ on_1 14 0 Send (Sent (VoteMessage 0 writer 1 Yes))
    ∷ on_0 15 0 (Deliver (VoteMessage 0 writer 1 Yes) 14) Taken
    ∷ []

abbrev pub reading : History
reading =
    so_far
    ++ on_0 16 0 FlushOut (Out 4)
    ∷ on_0 17 0 FlushIn (Durable 4)
    ∷ on_0 18 1 (Look writer) Acknowledged
    ∷ on_0 19 0 Send (Sent (Decide 1 writer 0 true))
    ∷ on_1 20 0 (Deliver (Decide 1 writer 0 true) 19) Taken
    ∷ on_1 21 0 FlushOut (Out 4)
    ∷ on_1 22 0 FlushIn (Durable 4)
    ∷ on_1 23 0 Send (Sent (Done 0 writer 1))
    ∷ on_0 24 0 (Deliver (Done 0 writer 1) 23) Taken
    ∷ on_1 25 0 Send (Sent (VoteMessage 0 reader 1 Read))
    ∷ on_0 26 0 (Deliver (VoteMessage 0 reader 1 Read) 25) Taken
    ∷ on_0 27 2 (Look reader) Acknowledged
    ∷ on_0 28 1 (OpEvent second second_born 1 None (Put 3 (Num 31))) (Answered (Value (Some (Num 30))) 0)
    ∷ on_0 29 1 (Request second ((0, 0) ∷ [])) Asked
    ∷ on_0 30 0 FlushOut (Out 7)
    ∷ on_0 31 0 FlushIn (Durable 7)
    ∷ on_0 32 1 (Look second) Acknowledged
    ∷ []

abbrev pub reading_logs : List (List LogRecord)
reading_logs =
    (RestartRecord 1 0 ∷ Update writer 3 None (Some (Num 30)) ∷ PrepareRecord writer 0 [] ∷ Commit writer (1 ∷ []) ∷ End writer ∷ Update second 3 (Some (Num 30)) (Some (Num 31)) ∷ Commit second [] ∷ [])
    ∷ (RestartRecord 1 0 ∷ Update writer 5 None (Some (Num 50)) ∷ PrepareRecord writer 0 [] ∷ Commit writer [] ∷ [])
    ∷ []

abbrev pub ReadingIsLegal : Type 0
ReadingIsLegal = Legal splits new_logs reading reading_logs

abbrev pub reading_members : List Member
reading_members =
    record { tx = writer; point = record { stamp = 4; shard = 0 }; acts = operated 1 ((Put 3 (Num 30), Value None) ∷ (Put 5 (Num 50), Value None) ∷ []) }
    ∷ record { tx = reader; point = record { stamp = 9; shard = 0 }; acts = operated 1 ((Get 3, Value (Some (Num 30))) ∷ (Get 5, Value (Some (Num 50))) ∷ []) }
    ∷ record { tx = second; point = record { stamp = 29; shard = 0 }; acts = operated 1 ((Put 3 (Num 31), Value (Some (Num 30))) ∷ []) }
    ∷ []

-- the members are the writer, the reader and the session's second one, and replay with their answers to the map that the logs stand for
abbrev pub ReadingHasMembers : Type 0
ReadingHasMembers =
    (serial_left splits new_logs reading reading_logs (λ n. false) ≡ reading_members)
    × (replay_answers (stands new_logs) (serial_acts reading_members) ≡ serial_answers reading_members)
    × (replay_map (stands new_logs) (serial_acts reading_members) ≡ stands reading_logs) × (stands reading_logs ≡ (3, Num 31) ∷ (5, Num 50) ∷ [])

-- the writer is the reader's predecessor on both shards; the reader is acknowledged, and no log has a COMMIT of it
abbrev pub ReaderFollowsWriter : Type 0
ReaderFollowsWriter =
    (predecessors_in (log_of reading_logs 0) (start_of new_logs 0) reader (journal_of 0 reading) ≡ writer ∷ [])
    × (predecessors_in (log_of reading_logs 1) (start_of new_logs 1) reader (journal_of 1 reading) ≡ writer ∷ [])
    × (acknowledged_in reading writer ≡ true) × (acknowledged_in reading reader ≡ true) × (acknowledged_in reading second ≡ true)
    × (committed_somewhere reading_logs reader ≡ false)

-- A transaction that writes on two shards, and a crash between its two COMMITs.
use Rattle.std.specs.Prelude.{◌≡◌, true, false, List, [], ◌∷◌, Some, None}
use Rattle.clv_base.specs.declared.values.Value.TheVariants.{Num}
use Rattle.clv_base.specs.declared.ops.Op.TheVariants.{Put}
use Rattle.clv_base.specs.declared.ops.Answer.TheVariants.{Value}
use Rattle.clv_base.specs.declared.causes.Vote.TheVariants.{Yes}
use Rattle.clv_base.specs.declared.messages.Message.TheVariants.{Prepare, Vote as VoteMessage, Decide}
use Rattle.clv_base.specs.declared.logs.LogRecord.{LogRecord}
use Rattle.clv_base.specs.declared.logs.LogRecord.TheVariants.{Update, Prepare as PrepareRecord, Commit, Restart as RestartRecord}
use Rattle.clv_base.specs.declared.events.Event.TheVariants.{Op as OpEvent, Request, Look, Send, Deliver, FlushOut, FlushIn}
use Rattle.clv_base.specs.declared.events.Outcome.TheVariants.{Answered, Asked, Acknowledged, Sent, Taken, Out, Durable}
use Rattle.clv_base.specs.Maps.{replay_map, replay_answers}
use Rattle.clv_base.specs.Logs.{stands, in_doubt}
use Rattle.clv_base.specs.LogRules.{log_of}
use Rattle.clv_base.specs.FileRules.{may_open}
use Rattle.clv_base.specs.Journals.{History}
use Rattle.clv_base.specs.History.{Member, logs_left, acknowledged_in, serial_acts, serial_answers}
use Rattle.history_laws.specs.Openings.{LegalFrom}
use Rattle.history_laws.specs.Continuing.{serial_left}
use Rattle.history_examples.specs.Noted.{splits, new_logs, born, writer, on_0, on_1}
use Rattle.history_examples.specs.Playing.{operated}

-- shard 0 is the home; shard 1 is prepared durably, votes yes and takes the decision
abbrev pub wide : History
wide =
    on_0 2 1 (OpEvent writer (born 1 1) 1 None (Put 3 (Num 30))) (Answered (Value None) 0)
    ∷ on_1 3 1 (OpEvent writer (born 1 1) 2 None (Put 5 (Num 50))) (Answered (Value None) 0)
    ∷ on_0 4 1 (Request writer ((0, 0) ∷ (1, 0) ∷ [])) Asked
    ∷ on_0 5 0 Send (Sent (Prepare 1 writer 0 0))
    ∷ on_1 6 0 (Deliver (Prepare 1 writer 0 0) 5) Taken
    ∷ on_1 7 0 FlushOut (Out 3)
    ∷ on_1 8 0 FlushIn (Durable 3)
    ∷ on_1 9 0 Send (Sent (VoteMessage 0 writer 1 Yes))
    ∷ on_0 10 0 (Deliver (VoteMessage 0 writer 1 Yes) 9) Taken
    ∷ on_0 11 0 FlushOut (Out 4)
    ∷ on_0 12 0 FlushIn (Durable 4)
    ∷ on_0 13 1 (Look writer) Acknowledged
    ∷ on_0 14 0 Send (Sent (Decide 1 writer 0 true))
    ∷ on_1 15 0 (Deliver (Decide 1 writer 0 true) 14) Taken
    ∷ []

-- the part's COMMIT is lost
abbrev pub home_log : List LogRecord
home_log = RestartRecord 1 0 ∷ Update writer 3 None (Some (Num 30)) ∷ PrepareRecord writer 0 [] ∷ Commit writer (1 ∷ []) ∷ []

abbrev pub part_log : List LogRecord
part_log = RestartRecord 1 0 ∷ Update writer 5 None (Some (Num 50)) ∷ PrepareRecord writer 0 [] ∷ []

abbrev pub wide_logs : List (List LogRecord)
wide_logs = home_log ∷ part_log ∷ []

abbrev pub WideIsLegal : Type 0
WideIsLegal = LegalFrom splits new_logs wide wide_logs

abbrev pub wide_member : Member
wide_member = record { tx = writer; point = record { stamp = 4; shard = 0 }; acts = operated 1 ((Put 3 (Num 30), Value None) ∷ (Put 5 (Num 50), Value None) ∷ []) }

abbrev pub WideHasMember : Type 0
WideHasMember =
    (serial_left splits new_logs wide wide_logs (λ n. false) ≡ wide_member ∷ []) × (acknowledged_in wide writer ≡ true)
    × (replay_answers (stands new_logs) (serial_acts (wide_member ∷ [])) ≡ serial_answers (wide_member ∷ []))
    × (replay_map (stands new_logs) (serial_acts (wide_member ∷ [])) ≡ stands wide_logs) × (stands wide_logs ≡ (3, Num 30) ∷ (5, Num 50) ∷ [])

abbrev pub WideIsLeftInDoubt : Type 0
WideIsLeftInDoubt =
    (logs_left splits new_logs wide wide_logs (λ n. false) ≡ wide_logs) × (in_doubt 1 (log_of wide_logs 1) ≡ writer ∷ []) × (may_open splits wide_logs ≡ true)

-- A shard stops while a batch is in flight: one restart finds the batch, another doesn't.
use Rattle.std.specs.Prelude.{◌≡◌, ℕ, true, false, List, [], ◌∷◌, ◌++◌, Some, None}
use Rattle.clv_base.specs.declared.values.Value.TheVariants.{Num}
use Rattle.clv_base.specs.declared.ops.Op.TheVariants.{Put}
use Rattle.clv_base.specs.declared.ops.Answer.TheVariants.{Value}
use Rattle.clv_base.specs.declared.causes.AbortCause.TheVariants.{Restarted}
use Rattle.clv_base.specs.declared.logs.LogRecord.{LogRecord}
use Rattle.clv_base.specs.declared.logs.LogRecord.TheVariants.{Update, Commit, Restart as RestartRecord}
use Rattle.clv_base.specs.declared.events.Event.TheVariants.{Op as OpEvent, Request, Look, FlushOut, Stop, Restart}
use Rattle.clv_base.specs.declared.events.Outcome.TheVariants.{Answered, Asked, Acknowledged, Aborted, Out, Stopped, Up}
use Rattle.clv_base.specs.Logs.{stands}
use Rattle.clv_base.specs.declared.events.Entry.{Entry}
use Rattle.clv_base.specs.FileRules.{may_open}
use Rattle.clv_base.specs.Journals.{History}
use Rattle.clv_base.specs.History.{Legal, Member, CauseStands, logs_left}
use Rattle.history_laws.specs.Continuing.{GoesOn, serial_left}
use Rattle.history_examples.specs.Noted.{splits, new_logs, born, writer, on_1}
use Rattle.history_examples.specs.Playing.{operated}

-- one transaction on shard 1 alone, whose COMMIT is in flight when the shard stops
abbrev pub stopped : History
stopped =
    on_1 2 1 (OpEvent writer (born 1 1) 1 None (Put 5 (Num 50))) (Answered (Value None) 0)
    ∷ on_1 3 1 (Request writer ((1, 0) ∷ [])) Asked
    ∷ on_1 4 0 FlushOut (Out 3)
    ∷ on_1 5 0 Stop Stopped
    ∷ []

abbrev pub again : History
again = stopped ++ on_1 6 0 Restart (Up 1) ∷ []

abbrev pub found : History
found = again ++ on_1 7 1 (Look writer) Acknowledged ∷ []

abbrev pub lost_look : ℕ × Entry
lost_look = on_1 7 1 (Look writer) (Aborted (Restarted 1 0 1))

abbrev pub lost : History
lost = again ++ lost_look ∷ []

-- what the stop may leave, with the batch and without it
abbrev pub home_log : List LogRecord
home_log = RestartRecord 1 0 ∷ []

abbrev pub batch_log : List LogRecord
batch_log = RestartRecord 1 0 ∷ Update writer 5 None (Some (Num 50)) ∷ Commit writer [] ∷ []

abbrev pub with_batch : List (List LogRecord)
with_batch = home_log ∷ batch_log ∷ []

abbrev pub without_batch : List (List LogRecord)
without_batch = home_log ∷ (RestartRecord 1 0 ∷ []) ∷ []

-- and what the restarts leave of it
abbrev pub found_logs : List (List LogRecord)
found_logs = home_log ∷ (batch_log ++ RestartRecord 1 1 ∷ []) ∷ []

abbrev pub lost_logs : List (List LogRecord)
lost_logs = home_log ∷ (RestartRecord 1 0 ∷ RestartRecord 1 1 ∷ []) ∷ []

abbrev pub StoppedIsLegal : Type 0
StoppedIsLegal = Legal splits new_logs stopped with_batch × Legal splits new_logs stopped without_batch

abbrev pub FoundIsLegal : Type 0
FoundIsLegal = Legal splits new_logs found found_logs

abbrev pub LostIsLegal : Type 0
LostIsLegal = Legal splits new_logs lost lost_logs

abbrev pub flight_member : Member
flight_member = record { tx = writer; point = record { stamp = 3; shard = 1 }; acts = operated 1 ((Put 5 (Num 50), Value None) ∷ []) }

-- a crash leaves the batch or not: with it the transaction is a member, without it nothing is; both may be opened
abbrev pub CrashDecides : Type 0
CrashDecides =
    (logs_left splits new_logs stopped without_batch (λ n. true) ≡ with_batch) × (serial_left splits new_logs stopped without_batch (λ n. true) ≡ flight_member ∷ [])
    × (stands with_batch ≡ (5, Num 50) ∷ []) × (may_open splits with_batch ≡ true)
    × (logs_left splits new_logs stopped with_batch (λ n. false) ≡ without_batch) × (serial_left splits new_logs stopped with_batch (λ n. false) ≡ [])
    × (stands without_batch ≡ []) × (may_open splits without_batch ≡ true)

-- the one restart makes it a member, the other one makes it nothing
abbrev pub FlightDecides : Type 0
FlightDecides =
    (serial_left splits new_logs found found_logs (λ n. false) ≡ flight_member ∷ []) × (stands found_logs ≡ (5, Num 50) ∷ [])
    × (serial_left splits new_logs lost lost_logs (λ n. true) ≡ []) × (stands lost_logs ≡ [])

-- the history up to the stop, with either of its logs, goes on to each of the two
abbrev pub StoppedGoesOn : Type 0
StoppedGoesOn =
    GoesOn splits new_logs stopped with_batch found found_logs × GoesOn splits new_logs stopped without_batch found found_logs
    × GoesOn splits new_logs stopped with_batch lost lost_logs × GoesOn splits new_logs stopped without_batch lost lost_logs

-- once the restart is among the entries it goes on to the one with the restart's own log alone
abbrev pub RestartChooses : Type 0
RestartChooses =
    Legal splits new_logs again found_logs × GoesOn splits new_logs again found_logs found found_logs × (GoesOn splits new_logs again found_logs lost lost_logs → ⊥)
    × Legal splits new_logs again lost_logs × GoesOn splits new_logs again lost_logs lost lost_logs × (GoesOn splits new_logs again lost_logs found found_logs → ⊥)

-- the one that isn't found is told that the shard was restarted since it answered
abbrev pub LostHasCause : Type 0
LostHasCause = CauseStands new_logs again lost_logs lost_look writer (Restarted 1 0 1)

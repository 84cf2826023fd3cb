-- A shard restarts before it is asked for its vote: its no aborts the transaction, and the one that read its write at the home.
use Rattle.std.specs.Prelude.{◌≡◌, ℕ, ◌<◌, true, List, [], ◌∷◌, take, Some, None}
use Rattle.clv_base.specs.declared.values.Value.TheVariants.{Num}
use Rattle.clv_base.specs.declared.names.TxId.{TxId}
use Rattle.clv_base.specs.declared.ops.Op.TheVariants.{Get, Put}
use Rattle.clv_base.specs.declared.ops.Answer.TheVariants.{Value}
use Rattle.clv_base.specs.declared.causes.NoWhy.TheVariants.{Restarted as RestartedWhy}
use Rattle.clv_base.specs.declared.causes.Vote.TheVariants.{No}
use Rattle.clv_base.specs.declared.causes.AbortCause.TheVariants.{Died, Predecessor, NoVote}
use Rattle.clv_base.specs.declared.messages.Message.TheVariants.{Prepare, Vote as VoteMessage}
use Rattle.clv_base.specs.declared.logs.LogRecord.{LogRecord}
use Rattle.clv_base.specs.declared.logs.LogRecord.TheVariants.{Restart as RestartRecord}
use Rattle.clv_base.specs.declared.events.Event.TheVariants.{Op as OpEvent, Request, Look, Send, Deliver, Stop, Restart}
use Rattle.clv_base.specs.declared.events.Outcome.TheVariants.{Answered, Asked, Aborted, Dead, Sent, Taken, Stopped, Up}
use Rattle.clv_base.specs.declared.events.Entry.{Entry}
use Rattle.clv_base.specs.Journals.{History}
use Rattle.clv_base.specs.History.{CauseStands}
use Rattle.clv_base.specs.Shards.{shard_count}
use Rattle.fate_laws.specs.Causes.{TellsCause}
use Rattle.settled_laws.specs.Deaths.{BeginsSettled}
use Rattle.history_laws.specs.Openings.{LegalFrom}
use Rattle.history_laws.specs.Continuing.{serial_left}
use Rattle.history_laws.specs.Outcomes.{aborted_in_history}
use Rattle.history_examples.specs.Noted.{splits, new_logs, tx, born, writer, on_0, on_1}

-- the one that reads the write of the closed writer, and a younger one that meets the active writer and dies
abbrev pub reader : TxId
reader = tx 1 2

abbrev pub younger : TxId
younger = tx 1 3

abbrev pub dies : ℕ × Entry
dies = on_1 4 3 (OpEvent younger (born 3 2) 1 None (Put 5 (Num 51))) (Dead (Died writer))

abbrev pub reader_looks : ℕ × Entry
reader_looks = on_0 14 2 (Look reader) (Aborted (Predecessor writer))

abbrev pub writer_looks : ℕ × Entry
writer_looks = on_0 15 1 (Look writer) (Aborted (NoVote 1 (RestartedWhy 0 1)))

abbrev pub refused : History
refused =
    on_0 2 1 (OpEvent writer (born 1 1) 1 None (Put 3 (Num 30))) (Answered (Value None) 0)
    ∷ on_1 3 1 (OpEvent writer (born 1 1) 2 None (Put 5 (Num 50))) (Answered (Value None) 0)
    ∷ dies
    ∷ on_0 5 1 (Request writer ((0, 0) ∷ (1, 0) ∷ [])) Asked
    ∷ on_0 6 2 (OpEvent reader (born 2 3) 1 None (Get 3)) (Answered (Value (Some (Num 30))) 0)
    ∷ on_0 7 2 (Request reader ((0, 0) ∷ [])) Asked
    ∷ on_1 8 0 Stop Stopped
    ∷ on_1 9 0 Restart (Up 1)
    ∷ on_0 10 0 Send (Sent (Prepare 1 writer 0 0))
    ∷ on_1 11 0 (Deliver (Prepare 1 writer 0 0) 10) Taken
    ∷ on_1 12 0 Send (Sent (VoteMessage 0 writer 1 (No (RestartedWhy 0 1))))
    ∷ on_0 13 0 (Deliver (VoteMessage 0 writer 1 (No (RestartedWhy 0 1))) 12) Taken
    ∷ reader_looks
    ∷ writer_looks
    ∷ []

abbrev pub refused_logs : List (List LogRecord)
refused_logs = (RestartRecord 1 0 ∷ []) ∷ (RestartRecord 1 0 ∷ RestartRecord 1 1 ∷ []) ∷ []

abbrev pub RefusedIsLegal : Type 0
RefusedIsLegal = LegalFrom splits new_logs refused refused_logs

-- each is told the cause that stands: the older one in the way, the abort of its predecessor, the no of the shard that restarted
abbrev pub RefusedHasCauses : Type 0
RefusedHasCauses =
    CauseStands new_logs (take 2 refused) refused_logs dies younger (Died writer)
    × CauseStands new_logs (take 12 refused) refused_logs reader_looks reader (Predecessor writer)
    × CauseStands new_logs (take 13 refused) refused_logs writer_looks writer (NoVote 1 (RestartedWhy 0 1))

abbrev pub RefusedHasNoMember : Type 0
RefusedHasNoMember =
    (serial_left splits new_logs refused refused_logs (λ n. true) ≡ []) × (aborted_in_history refused writer ≡ true) × (aborted_in_history refused reader ≡ true)
    × (aborted_in_history refused younger ≡ true)

-- ---- its first three entries alone, from shards of which none was ever used

abbrev pub met : History
met =
    on_0 2 1 (OpEvent writer (born 1 1) 1 None (Put 3 (Num 30))) (Answered (Value None) 0)
    ∷ on_1 3 1 (OpEvent writer (born 1 1) 2 None (Put 5 (Num 50))) (Answered (Value None) 0)
    ∷ dies
    ∷ []

abbrev pub met_logs : List (List LogRecord)
met_logs = (RestartRecord 1 0 ∷ []) ∷ (RestartRecord 1 0 ∷ []) ∷ []

abbrev pub MetIsLegal : Type 0
MetIsLegal = LegalFrom splits new_logs met met_logs

-- each shard began settled, and none is restarted: what is told of an abort here is a death
abbrev pub MetBeginsSettled : Type 0
MetBeginsSettled = ((n : ℕ) → n < shard_count splits → BeginsSettled new_logs met n) × TellsCause (dies.1).event (dies.1).outcome younger (Died writer)

-- Parts of the refused commit: shard 1 lags behind, and a message is there without its sending.
use Rattle.std.specs.Prelude.{◌≡◌, ℕ, List, [], ◌∷◌, Some, None}
use Rattle.clv_base.specs.declared.values.Value.TheVariants.{Num}
use Rattle.clv_base.specs.declared.ops.Op.TheVariants.{Get, Put}
use Rattle.clv_base.specs.declared.ops.Answer.TheVariants.{Value}
use Rattle.clv_base.specs.declared.messages.Message.TheVariants.{Prepare}
use Rattle.clv_base.specs.declared.logs.LogRecord.{LogRecord}
use Rattle.clv_base.specs.declared.events.Event.TheVariants.{Op as OpEvent, Request, Send, Deliver, Stop, Restart}
use Rattle.clv_base.specs.declared.events.Outcome.TheVariants.{Answered, Asked, Sent, Taken, Stopped, Up}
use Rattle.clv_base.specs.Journals.{History, own}
use Rattle.clv_base.specs.History.{Legal}
use Rattle.protocol_laws.specs.Growth.{IsPrefixOf}
use Rattle.journal_laws.specs.Cuts.{IsCut, entries_until}
use Rattle.history_examples.specs.Noted.{splits, new_logs, born, writer, on_0, on_1}
use Rattle.history_examples.specs.Aborted.{reader, dies, refused}

-- shard 0 has sent its Prepare; shard 1 has not yet let the younger one die, nor stopped
abbrev pub lagging : History
lagging =
    on_0 2 1 (OpEvent writer (born 1 1) 1 None (Put 3 (Num 30))) (Answered (Value None) 0)
    ∷ on_1 3 1 (OpEvent writer (born 1 1) 2 None (Put 5 (Num 50))) (Answered (Value None) 0)
    ∷ on_0 5 1 (Request writer ((0, 0) ∷ (1, 0) ∷ [])) Asked
    ∷ on_0 6 2 (OpEvent reader (born 2 3) 1 None (Get 3)) (Answered (Value (Some (Num 30))) 0)
    ∷ on_0 7 2 (Request reader ((0, 0) ∷ [])) Asked
    ∷ on_0 10 0 Send (Sent (Prepare 1 writer 0 0))
    ∷ []

abbrev pub LaggingIsACut : Type 0
LaggingIsACut = IsCut splits refused lagging

abbrev pub LaggingIsNoMoment : Type 0
LaggingIsNoMoment = (stamp : ℕ) → entries_until stamp refused ≡ lagging → ⊥

abbrev pub LaggingWalkersAreNoFront : Type 0
LaggingWalkersAreNoFront = IsPrefixOf (own 0 lagging) (own 0 refused) → ⊥

-- shard 1 has taken the Prepare that shard 0 has not sent
abbrev pub unsent : History
unsent =
    on_0 2 1 (OpEvent writer (born 1 1) 1 None (Put 3 (Num 30))) (Answered (Value None) 0)
    ∷ on_1 3 1 (OpEvent writer (born 1 1) 2 None (Put 5 (Num 50))) (Answered (Value None) 0)
    ∷ dies
    ∷ on_0 5 1 (Request writer ((0, 0) ∷ (1, 0) ∷ [])) Asked
    ∷ on_0 6 2 (OpEvent reader (born 2 3) 1 None (Get 3)) (Answered (Value (Some (Num 30))) 0)
    ∷ on_0 7 2 (Request reader ((0, 0) ∷ [])) Asked
    ∷ on_1 8 0 Stop Stopped
    ∷ on_1 9 0 Restart (Up 1)
    ∷ on_1 11 0 (Deliver (Prepare 1 writer 0 0) 10) Taken
    ∷ []

abbrev pub UnsentIsNeverLegal : Type 0
UnsentIsNeverLegal = (logs : List (List LogRecord)) → Legal splits new_logs unsent logs → ⊥

-- Legal histories, worked out by hand.
use Rattle.std.specs.Prelude.{◌≡◌, ℕ, true, false, List, [], ◌∷◌, ◌++◌, Some, None}
use Rattle.clv_base.specs.declared.values.Value.TheVariants.{Num}
use Rattle.clv_base.specs.declared.ops.Op.TheVariants.{Get, Put}
use Rattle.clv_base.specs.declared.ops.Answer.TheVariants.{Value}
use Rattle.clv_base.specs.declared.causes.AbortCause.TheVariants.{Restarted}
use Rattle.clv_base.specs.declared.logs.LogRecord.{LogRecord}
use Rattle.clv_base.specs.declared.logs.LogRecord.TheVariants.{Update, Clr, Commit, Abort, Restart as RestartRecord}
use Rattle.clv_base.specs.declared.events.Event.{Event}
use Rattle.clv_base.specs.declared.events.Event.TheVariants.{Op as OpEvent, Request, Look, FlushOut, FlushIn, Stop, Restart}
use Rattle.clv_base.specs.declared.events.Outcome.{Outcome}
use Rattle.clv_base.specs.declared.events.Outcome.TheVariants.{Answered, Asked, Acknowledged, Aborted, Out, Durable, Stopped, Up}
use Rattle.clv_base.specs.declared.events.Entry.{Entry}
use Rattle.clv_base.specs.Logs.{stands}
use Rattle.clv_base.specs.Journals.{History, final_of}
use Rattle.clv_base.specs.Needs.{live_pairs}
use Rattle.clv_base.specs.History.{Legal, Member, IsSettled}
use Rattle.history_laws.specs.Openings.{LegalFrom}
use Rattle.history_laws.specs.Continuing.{GoesOn, serial_now, serial_left}
use Rattle.history_laws.specs.Outcomes.{aborted_in_history}
use Rattle.clv_base.specs.declared.names.TxId.{TxId}
use Rattle.clv_base.specs.declared.names.Birth.{Birth}
use Rattle.history_laws.specs.Places.{predecessors_on}
use Rattle.history_examples.specs.Playing.{operated}

-- a disk that was made and never used: one shard, whose log has no record
abbrev pub new_log : List (List LogRecord)
new_log = [] ∷ []

-- the names and births of session 1
abbrev pub tx_of : ℕ → ℕ → TxId
tx_of run serial = record { run = run; session = 1; serial = serial }

abbrev pub birth_of : ℕ → ℕ → Birth
birth_of stamp serial = record { stamp = stamp; session = 1; serial = serial }

abbrev pub first_member : Member
first_member = record { tx = tx_of 1 1; point = record { stamp = 3; shard = 0 }; acts = operated 1 ((Put 5 (Num 10), Value None) ∷ []) }

-- ---- a shard that stops with nothing flushed, and is restarted

abbrev pub at : ℕ → ℕ → Event → Outcome → ℕ × Entry
at stamp walker e o = (0, record { stamp = stamp; walker = walker; event = e; outcome = o })

abbrev pub restarted : History
restarted =
    at 2 1 (OpEvent (tx_of 1 1) (birth_of 1 1) 1 None (Put 5 (Num 10))) (Answered (Value None) 0)
    ∷ at 3 1 (Request (tx_of 1 1) ((0, 0) ∷ [])) Asked ∷ at 4 0 Stop Stopped ∷ at 5 0 Restart (Up 1) ∷ []

abbrev pub looked_at : History
looked_at = restarted ++ at 6 1 (Look (tx_of 1 1)) (Aborted (Restarted 0 0 1)) ∷ []

abbrev pub restarted_log : List LogRecord
restarted_log = RestartRecord 1 0 ∷ RestartRecord 1 1 ∷ []

abbrev pub RestartIsLegal : Type 0
RestartIsLegal = Legal [] new_log restarted (restarted_log ∷ []) × Legal [] new_log looked_at (restarted_log ∷ [])

abbrev pub RestartGoesOn : Type 0
RestartGoesOn = GoesOn [] new_log restarted (restarted_log ∷ []) looked_at (restarted_log ∷ [])

abbrev pub RestartHasNoMember : Type 0
RestartHasNoMember =
    (serial_now [] new_log restarted (restarted_log ∷ []) ≡ [])
    × (serial_left [] new_log looked_at (restarted_log ∷ []) (λ n. false) ≡ [])
    × (aborted_in_history looked_at (tx_of 1 1) ≡ true)

-- ---- a reader that violates a closed writer

abbrev pub reader : TxId
reader = record { run = 1; session = 2; serial = 1 }

abbrev pub reader_birth : Birth
reader_birth = record { stamp = 2; session = 2; serial = 1 }

abbrev pub violated : History
violated =
    at 2 1 (OpEvent (tx_of 1 1) (birth_of 1 1) 1 None (Put 5 (Num 10))) (Answered (Value None) 0)
    ∷ at 3 1 (Request (tx_of 1 1) ((0, 0) ∷ [])) Asked
    ∷ at 4 2 (OpEvent reader reader_birth 1 None (Get 5)) (Answered (Value (Some (Num 10))) 0)
    ∷ at 5 2 (Request reader ((0, 0) ∷ [])) Asked ∷ at 6 0 FlushOut (Out 3) ∷ at 7 0 FlushIn (Durable 3) ∷ at 8 2 (Look reader) Acknowledged ∷ []

abbrev pub violated_log : List LogRecord
violated_log = RestartRecord 1 0 ∷ Update (tx_of 1 1) 5 None (Some (Num 10)) ∷ Commit (tx_of 1 1) [] ∷ []

abbrev pub ViolatedIsLegal : Type 0
ViolatedIsLegal = Legal [] new_log violated (violated_log ∷ [])

abbrev pub reader_member : Member
reader_member = record { tx = reader; point = record { stamp = 5; shard = 0 }; acts = operated 1 ((Get 5, Value (Some (Num 10))) ∷ []) }

abbrev pub ViolatedHasMembers : Type 0
ViolatedHasMembers =
    (serial_left [] new_log violated (violated_log ∷ []) (λ n. false) ≡ first_member ∷ reader_member ∷ [])
    × (predecessors_on new_log violated (violated_log ∷ []) 0 reader ≡ tx_of 1 1 ∷ [])

-- ---- a log with a committed transaction and a loser, which wrote over it

abbrev pub loser : TxId
loser = record { run = 1; session = 2; serial = 1 }

abbrev pub found_log : List LogRecord
found_log = RestartRecord 1 0 ∷ Update (tx_of 1 1) 5 None (Some (Num 10)) ∷ Commit (tx_of 1 1) [] ∷ Update loser 5 (Some (Num 10)) (Some (Num 11)) ∷ Update loser 6 None (Some (Num 1)) ∷ []

abbrev pub from_found : History
from_found =
    at 2 1 (OpEvent (tx_of 2 1) (birth_of 1 1) 1 None (Get 6)) (Answered (Value None) 0)
    ∷ at 3 1 (OpEvent (tx_of 2 1) (birth_of 1 1) 2 (Some 0) (Put 5 (Num 12))) (Answered (Value (Some (Num 10))) 0)
    ∷ at 4 1 (Request (tx_of 2 1) ((0, 0) ∷ [])) Asked ∷ at 5 0 FlushOut (Out 11) ∷ at 6 0 FlushIn (Durable 11) ∷ at 7 1 (Look (tx_of 2 1)) Acknowledged ∷ []

-- the opening undoes the loser
abbrev pub found_left : List LogRecord
found_left =
    found_log ++ Abort loser ∷ Clr loser (Some 3) 6 None ∷ Clr loser None 5 (Some (Num 10)) ∷ RestartRecord 2 0 ∷ Update (tx_of 2 1) 5 (Some (Num 10)) (Some (Num 12)) ∷ Commit (tx_of 2 1) [] ∷ []

abbrev pub FoundIsLegal : Type 0
FoundIsLegal = LegalFrom [] (found_log ∷ []) from_found (found_left ∷ [])

abbrev pub new_member : Member
new_member = record { tx = tx_of 2 1; point = record { stamp = 4; shard = 0 }; acts = operated 1 ((Get 6, Value None) ∷ (Put 5 (Num 12), Value (Some (Num 10))) ∷ []) }

abbrev pub FoundHasMembers : Type 0
FoundHasMembers =
    (serial_left [] (found_log ∷ []) from_found (found_left ∷ []) (λ n. false) ≡ new_member ∷ [])
    × (stands (found_log ∷ []) ≡ (5, Num 10) ∷ []) × (stands (found_left ∷ []) ≡ (5, Num 12) ∷ [])

-- ---- where nothing is left to do

-- a shard that was opened and did nothing
abbrev pub opened_log : List LogRecord
opened_log = RestartRecord 1 0 ∷ []

abbrev pub OpenedIsSettled : Type 0
OpenedIsSettled =
    Legal [] new_log [] (opened_log ∷ []) × IsSettled [] new_log [] (opened_log ∷ [])
    × (live_pairs (final_of new_log [] (opened_log ∷ []) 0).local.records ≡ [])

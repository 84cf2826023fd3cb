-- What carrying one message tells.
use Rattle.std.specs.Prelude.{◌≡◌, ℕ, ◌<◌, ◌≤◌, List, Option, Some, None, Result, Ok, Err}
use Rattle.clv_base.specs.declared.events.Event.TheVariants.{Send, Deliver}
use Rattle.clv_base.specs.declared.events.Outcome.{Outcome}
use Rattle.clv_base.specs.declared.events.Outcome.TheVariants.{Sent, Nothing as NothingOut, Down as DownOut}
use Rattle.clv_base.specs.declared.events.Entry.{Entry}
use Rattle.clv_base.specs.declared.messages.Message.{Message}
use Rattle.clv_base.specs.Events.{to_of}
use Rattle.clv_base.specs.Journals.{History}
use Rattle.clv_base.specs.History.{IsAmong}
use Rattle.turn_lock.specs.declared.pass.Pass.{Pass}
use Rattle.machine_calls.specs.declared.machine.StepError.{StepError}
use Rattle.machine_calls.specs.declared.machine.StepError.TheVariants.{Memory as NoMemory, Worn as IsWorn}
use Rattle.machine_laws.specs.declared.notes.Note.{Note}
use Rattle.machine_laws.specs.declared.notes.Origin.{Origin}
use Rattle.cluster_turns.specs.Turns.{EventTold}
use Rattle.cluster_turns.specs.Walkers.{Walked}
use Rattle.cluster_turns.specs.declared.carrying.Carry.{Carry}
use Rattle.cluster_turns.specs.declared.carrying.Carry.TheVariants.{Carried, Nothing}
use Rattle.cluster_turns.specs.declared.carrying.CarryError.{CarryError}
use Rattle.cluster_turns.specs.declared.carrying.CarryError.TheVariants.{Down, Worn, Memory}

abbrev pub refusal : StepError → CarryError
refusal NoMemory = Memory
refusal (IsWorn at) = Worn at

-- what was taken out of the outbox of the shard
abbrev pub message_of : ℕ → Result Outcome StepError → Result (Option Message) CarryError
message_of from (Ok (Sent m)) = Ok (Some m)
message_of from (Ok NothingOut) = Ok None
message_of from (Ok _) = Err (Down from)
message_of from (Err e) = Err (refusal e)

-- what came of a message at its receiver
abbrev pub brought_by : ℕ → Result Outcome StepError → Result Carry CarryError
brought_by to (Ok DownOut) = Err (Down to)
brought_by to (Ok _) = Ok Carried
brought_by to (Err e) = Err (refusal e)

-- and where none was taken out
abbrev pub not_taken : Result (Option Message) CarryError → Result Carry CarryError
not_taken (Ok m) = Ok Nothing
not_taken (Err e) = Err e

-- an entry of this stamp sent it
abbrev pub WasTaken : Message → ℕ → History → Type 0
WasTaken m stamp h = (n : ℕ) × (e : Entry) × IsAmong n e h × (e.stamp ≡ stamp) × (e.outcome ≡ Sent m)

module _ {T : Type 0} where
  -- one turn at the receiver, or none where there is no such shard
  pub data BringTold (count : ℕ) (m : Message) (w clock : ℕ) (before : List (Option (Pass T Note Origin))) : Result Carry CarryError → ℕ → List (Option (Pass T Note Origin)) → Type 0 where
    is_lost : count ≤ to_of m → BringTold count m w clock before (Ok Carried) clock before
    is_brought :
        (r : Result Outcome StepError) (clock' : ℕ) (after : List (Option (Pass T Note Origin))) → to_of m < count → Walked (EventTold clock w (Deliver m clock) r clock') (to_of m) w before after
        → BringTold count m w clock before (brought_by (to_of m) r) clock' after

  -- one turn at the sender, and where that sent a message, what came of it
  pub data CarryTold (count from w clock : ℕ) (before : List (Option (Pass T Note Origin))) : Result Carry CarryError → ℕ → List (Option (Pass T Note Origin)) → Type 0 where
    none_sent :
        (r : Result Outcome StepError) (clock' : ℕ) (after : List (Option (Pass T Note Origin))) → ((m : Message) → r ≡ Ok (Sent m) → ⊥) → Walked (EventTold clock w Send r clock') from w before after
        → CarryTold count from w clock before (not_taken (message_of from r)) clock' after
    one_sent :
        (m : Message) (c : ℕ) (between : List (Option (Pass T Note Origin))) (r : Result Carry CarryError) (clock' : ℕ) (after : List (Option (Pass T Note Origin)))
        → Walked (EventTold clock w Send (Ok (Sent m)) c) from w before between → BringTold count m w c between r clock' after → CarryTold count from w clock before r clock' after

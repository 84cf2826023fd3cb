-- The shard whatever its journal, its last stamp, and whether it is up: what a machine keeps beside the core.
use Rattle.std.specs.Prelude.{◌≡◌, ℕ, ◌==◌, Bool, true, false, cond, List, Option, Some, None}
use Rattle.clv_base.specs.declared.names.TxId.{TxId}
use Rattle.clv_base.specs.declared.events.Event.{Event}
use Rattle.clv_base.specs.declared.events.Event.TheVariants.{RollTo, Look, Stop, FlushOut}
use Rattle.clv_base.specs.declared.events.Outcome.{Outcome}
use Rattle.clv_base.specs.declared.events.Outcome.TheVariants.{Acknowledged, Dead, NotYet}
use Rattle.clv_base.specs.declared.events.Entry.{Entry}
use Rattle.clv_base.specs.declared.state.Request.{Request}
use Rattle.clv_base.specs.declared.causes.AbortCause.TheVariants.{Restarted as RestartedCause}
use Rattle.clv_base.specs.Orders.{tx_get}
use Rattle.clv_base.specs.Undo.{stage_of}
use Rattle.clv_base.specs.Backs.{standing_numbers, count_after}
use Rattle.clv_base.specs.Logs.{committed_in}
use Rattle.clv_base.specs.State.{Shard}
use Rattle.clv_base.specs.Facts.{facts_of, has_durable_commit}
use Rattle.clv_base.specs.Events.{Reply, QuietBeforeWorn, QuietAfterWorn, Does, finish, roll_by_stage, look_lost, look_state, request_epoch, happen_up}

-- the shard with these
abbrev pub stamped_as : Bool → ℕ → List Entry → Shard → Shard
stamped_as is_up last journal s = record s { is_up = is_up; last = last; journal = journal }

-- what is due is done alike
abbrev pub FinishesAlike : Type 0
FinishesAlike = (is_up : Bool) (last : ℕ) (journal : List Entry) (s : Shard) → finish (stamped_as is_up last journal s) ≡ stamped_as is_up last journal (finish s)

-- ---- what each event makes

-- what an event comes to, with these
abbrev pub reply_as : ℕ → List Entry → Reply → Reply
reply_as last journal (QuietBeforeWorn o) = QuietBeforeWorn o
reply_as last journal (QuietAfterWorn o) = QuietAfterWorn o
reply_as last journal (Does o t) = Does o (stamped_as true last journal t)

-- events that neither read the journal nor put the shard down
abbrev pub is_plain : Event → Bool
is_plain (Look tx) = false
is_plain (RollTo tx nth seen upto) = false
is_plain Stop = false
is_plain _ = true

abbrev pub EventsAlike : Type 0
EventsAlike = (last : ℕ) (journal : List Entry) (s : Shard) (e : Event) → is_plain e ≡ true → happen_up (stamped_as true last journal s) e ≡ reply_as last journal (happen_up s e)

-- a going back by how many of the transaction's writes the journal tells it to take back
abbrev pub roll_in : Shard → TxId → ℕ → ℕ → Bool → Reply
roll_in s tx seen n false = Does (Dead (RestartedCause s.shard seen s.local.epoch)) (finish s)
roll_in s tx seen n true = roll_by_stage s tx n (stage_of s.local tx)

abbrev pub RollsAlike : Type 0
RollsAlike =
    (last : ℕ) (journal : List Entry) (s : Shard) (tx : TxId) (nth seen upto : ℕ)
    → happen_up (stamped_as true last journal s) (RollTo tx nth seen upto) ≡ reply_as last journal (roll_in s tx seen (count_after upto (standing_numbers tx journal)) (seen == s.local.epoch))

-- a look by the epoch that the transaction's request named first, as the journal tells it
abbrev pub look_unknown : Shard → TxId → Option ℕ → Option Request → Reply
look_unknown s tx named (Some q) = look_state s q.state
look_unknown s tx named None = cond (committed_in s.local.log tx) (QuietBeforeWorn NotYet) (look_lost s tx named)

abbrev pub look_by : Shard → TxId → Option ℕ → Reply
look_by s tx named = cond (has_durable_commit (facts_of s tx)) (Does Acknowledged (finish s)) (look_unknown s tx named (tx_get tx s.requests))

abbrev pub LooksAlike : Type 0
LooksAlike =
    (last : ℕ) (journal : List Entry) (s : Shard) (tx : TxId) → happen_up (stamped_as true last journal s) (Look tx) ≡ reply_as last journal (look_by s tx (request_epoch s.shard tx journal))

-- ---- the shard's number, and what is in flight

-- events after which the same is in flight
abbrev pub is_grounded : Event → Bool
is_grounded FlushOut = false
is_grounded _ = true

abbrev pub FinishesStay : Type 0
FinishesStay = (s : Shard) → ((finish s).shard ≡ s.shard) × ((finish s).flight ≡ s.flight)

abbrev pub EventsStay : Type 0
EventsStay = (s t : Shard) (e : Event) (o : Outcome) → happen_up s e ≡ Does o t → is_grounded e ≡ true → (t.shard ≡ s.shard) × (t.flight ≡ s.flight)

-- What a call of the machine tells of its state before and after it.
use Rattle.std.specs.Prelude.{◌≡◌, ℕ, ◌^◌, ◌-◌, ◌==◌, max, cond, Bool, true, false, not, List, [], ◌∷◌, ◌++◌, Option, Some, None, Result, Ok, Err}
use Rattle.clv_base.specs.declared.messages.Message.{Message}
use Rattle.clv_base.specs.declared.events.Event.{Event}
use Rattle.clv_base.specs.declared.events.Event.TheVariants.{Drop, Remind, RollTo}
use Rattle.clv_base.specs.declared.events.Outcome.{Outcome}
use Rattle.clv_base.specs.declared.events.Outcome.TheVariants.{Wait, Crowded, Nothing}
use Rattle.clv_base.specs.declared.events.Entry.{Entry}
use Rattle.clv_base.specs.Orders.{tx_get}
use Rattle.clv_base.specs.declared.state.Held.{Held}
use Rattle.clv_base.specs.State.{Shard}
use Rattle.clv_base.specs.Events.{CallAnswer, Quiet, Worn as IsWorn, Enters, next_stamp}
use Rattle.machine_calls.specs.declared.machine.StepError.{StepError}
use Rattle.machine_calls.specs.declared.machine.StepError.TheVariants.{Memory, Worn}

abbrev pub entry : ℕ → ℕ → Event → Outcome → Entry
entry stamp w e o = record { stamp = stamp; walker = w; event = e; outcome = o }

-- the event was made, as the definitions answer it, and the journal has grown by the entry x
pub record Made (answer : CallAnswer) (s : Shard) (clock w : ℕ) (e : Event) (o : Outcome) (t : Shard) (x : Entry) : Type 0 where
  pub enters : answer ≡ Enters o t
  pub entry_is : x ≡ entry (next_stamp s clock e) w e o
  pub journal : t.journal ≡ s.journal ++ x ∷ []

-- whether a part is known and wasn't dropped
abbrev pub is_undropped : Option Held → Bool
is_undropped None = false
is_undropped (Some h) = not h.is_dropped

-- what takes no memory: the drop of such a part, for which room was made at its first operation, and a going back, for which each write made room
abbrev pub takes_no_memory : Shard → Event → Bool
takes_no_memory s (Drop tx) = is_undropped (tx_get tx s.local.parts)
takes_no_memory s (RollTo tx nth seen upto) = true
takes_no_memory s _ = false

abbrev pub sends_nothing : List Message → Bool
sends_nothing [] = true
sends_nothing (m ∷ ms) = false

-- want of memory may stand where an entry is made, but for what takes none; where an operation waits or is crowded, as that is found with memory; and
-- where a shard with an empty outbox is to remind, as what is due is listed first. It stands for no other quiet answer, and not where the clock is worn
abbrev pub may_want_memory : Shard → Event → CallAnswer → Bool
may_want_memory s e (Enters o t) = not (takes_no_memory s e)
may_want_memory s e (Quiet (Wait younger)) = true
may_want_memory s e (Quiet (Crowded count)) = true
may_want_memory s Remind (Quiet Nothing) = sends_nothing s.outbox
may_want_memory s Remind IsWorn = true
may_want_memory s e _ = false

-- no entry was made, since the answer is quiet, the clock is worn, or there was no memory
abbrev pub NoEntry : CallAnswer → Shard → Event → Result Outcome StepError → Type 0
NoEntry answer s e (Ok o) = answer ≡ Quiet o
NoEntry answer s e (Err Memory) = may_want_memory s e answer ≡ true
NoEntry answer s e (Err (Worn at)) = (answer ≡ IsWorn) × (at ≡ 2 ^ 48)

-- what one call tells, where this is the definitions' answer, with the entry that it made, if any
abbrev pub Tells : CallAnswer → Shard → ℕ → ℕ → Event → Result Outcome StepError → Shard → Option Entry → Type 0
Tells answer s clock w e r t (Some x) = (o : Outcome) × (r ≡ Ok o) × Made answer s clock w e o t x
Tells answer s clock w e r t None = NoEntry answer s e r × (t ≡ s)

-- the walker's clock after a call that made no entry: worn for good where the clock is worn
abbrev pub idle_clock : ℕ → Result Outcome StepError → ℕ
idle_clock clock (Ok o) = clock
idle_clock clock (Err Memory) = clock
idle_clock clock (Err (Worn at)) = max clock (2 ^ 48 - 1)

-- and after any
abbrev pub clock_after : ℕ → Result Outcome StepError → Option Entry → ℕ
clock_after clock r (Some x) = x.stamp
clock_after clock r None = idle_clock clock r

-- the same, from the shard's last stamps before and after
abbrev pub clock_by : ℕ → Result Outcome StepError → ℕ → ℕ → ℕ
clock_by clock r before after = cond (after == before) (idle_clock clock r) after

abbrev pub listed : {A : Type 0} → Option A → List A
listed None = []
listed (Some x) = x ∷ []

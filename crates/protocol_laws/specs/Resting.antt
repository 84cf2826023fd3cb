-- At the end of an event, and in the state that a restart makes, nothing is due.
use Rattle.std.specs.Prelude.{◌≡◌, ℕ, Bool, true, List, None}
use Rattle.clv_base.specs.declared.logs.LogRecord.{LogRecord}
use Rattle.clv_base.specs.declared.events.Entry.{Entry}
use Rattle.clv_base.specs.declared.events.Event.{Event}
use Rattle.clv_base.specs.declared.events.Outcome.{Outcome}
use Rattle.clv_base.specs.State.{Shard}
use Rattle.clv_base.specs.Due.{next_due}
use Rattle.clv_base.specs.Needs.{without_ghosts}
use Rattle.clv_base.specs.Events.{Does, happen, landed}
use Rattle.clv_base.specs.Restarts.{state_after}

-- nothing is due, and no ghost is without a lock
abbrev pub IsAtRest : Shard → Type 0
IsAtRest s = (next_due s ≡ None) × (without_ghosts s.local.locks s.local.records ≡ s.local.records)

-- at the end of an event, and of a flush, that leaves the shard up
abbrev pub EventsEndAtRest : Type 0
EventsEndAtRest =
    ((s t : Shard) (e : Event) (o : Outcome) → happen s e ≡ Does o t → t.is_up ≡ true → IsAtRest t)
    × ((s t : Shard) (n : ℕ) (is_pushed : Bool) (o : Outcome) → landed s n is_pushed ≡ Does o t → t.is_up ≡ true → IsAtRest t)

-- the state that a restart makes of a log, whatever the log, needs nothing done
abbrev pub RestartsEndAtRest : Type 0
RestartsEndAtRest = (shard run epoch last : ℕ) (log : List LogRecord) (journal : List Entry) → IsAtRest (state_after shard run epoch log last journal)

-- What one turn of a walker on one shard's lock tells.
use Rattle.std.specs.Prelude.{◌≡◌, ◌≤◌, ℕ, Bool, List, [], ◌++◌, map, Option, Some, Result}
use Rattle.clv_base.specs.declared.events.Event.{Event}
use Rattle.clv_base.specs.declared.events.Outcome.{Outcome}
use Rattle.clv_base.specs.declared.events.Entry.{Entry}
use Rattle.clv_base.specs.State.{Shard}
use Rattle.clv_base.specs.Events.{step, message_stamp}
use Rattle.turn_lock.specs.Journals.{GrownByOthers}
use Rattle.turn_lock.specs.declared.pass.Pass.{Pass}
use Rattle.turn_lock.specs.Passes.{number, pass_origin, seen, own, known}
use Rattle.machine_calls.specs.declared.machine.StepError.{StepError}
use Rattle.machine_calls.specs.Steps.{Tells, clock_after, listed}
use Rattle.machine_calls.specs.Settled.{is_settled}
use Rattle.machine_laws.specs.declared.notes.Note.{Note}
use Rattle.machine_laws.specs.declared.notes.Origin.{Origin}
use Rattle.machine_laws.specs.Notes.{noter, plain}
use Rattle.machine_laws.specs.Homes.{IsLegal}

-- an event of the walker w with this clock: the answer and the clock after it, from the state s to t, with the notes that it added. What it delivers has no
-- stamp past the clock
pub record EventTold (clock w : ℕ) (e : Event) (r : Result Outcome StepError) (clock' : ℕ) (s t : Shard) (added : List Note) : Type 0 where
  pub made : Option Entry
  pub added_is : added ≡ map plain (listed made)
  pub tells : Tells (step s clock w e) s clock w e r t made
  pub clock_is : clock' ≡ clock_after clock r made
  pub in_time : message_stamp e ≤ clock

-- a look at the state, which makes no entry
pub record SettledTold (answer : Bool) (s t : Shard) (added : List Note) : Type 0 where
  pub added_is : added ≡ []
  pub same : t ≡ s
  pub answer_is : answer ≡ is_settled s

module _ {T : Type 0} where
  -- from the pass p to q, by a turn of the walker w that told this; s and t are the shard's states before and after it. Both are the states of their notes,
  -- of which the first are those that the pass has seen, with others' since
  pub record Turned (Told : Shard → Shard → List Note → Type 0) (w : ℕ) (p q : Pass T Note Origin) : Type 0 where
    pub origin : Origin
    pub has_origin : pass_origin p ≡ Some origin
    pub before : List Note
    pub added : List Note
    pub s : Shard
    pub t : Shard
    pub s_is : IsLegal origin before s
    pub t_is : IsLegal origin (before ++ added) t
    pub told : Told s t added
    pub found : GrownByOthers noter w (seen p) before
    pub seen_is : seen q ≡ before ++ added
    pub own_is : own q ≡ own p ++ added
    pub number_is : number q ≡ number p
    pub origin_is : pass_origin q ≡ pass_origin p
    pub known_rises : known p ≤ known q

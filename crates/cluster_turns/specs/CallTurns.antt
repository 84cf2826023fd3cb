-- The turns that a call of a walker takes, one after another.
use Rattle.std.specs.Prelude.{◌≡◌, ◌⊎◌, ℕ, Bool, true, false, List, [], ◌∷◌, ◌++◌, Option, Some, None, Result, Ok, Err}
use Rattle.std.specs.List.{AllByRecursion}
use Rattle.clv_base.specs.declared.events.Event.{Event}
use Rattle.clv_base.specs.declared.events.Event.TheVariants.{FlushOut, FlushIn}
use Rattle.clv_base.specs.declared.events.Outcome.{Outcome}
use Rattle.clv_base.specs.declared.events.Outcome.TheVariants.{Out, Failed, Down}
use Rattle.clv_base.specs.declared.events.Entry.{Entry}
use Rattle.clv_base.specs.Journals.{History}
use Rattle.clv_base.specs.Sessions.{is_of_session}
use Rattle.turn_lock.specs.declared.pass.Pass.{Pass}
use Rattle.machine_calls.specs.declared.machine.StepError.{StepError}
use Rattle.machine_calls.specs.declared.machine.StepError.TheVariants.{Worn}
use Rattle.machine_laws.specs.declared.notes.Note.{Note}
use Rattle.machine_laws.specs.declared.notes.Origin.{Origin}
use Rattle.machine_laws.specs.Homes.{is_single}
use Rattle.cluster_turns.specs.Turns.{EventTold}
use Rattle.cluster_turns.specs.Walkers.{Walked, Looked}
use Rattle.cluster_turns.specs.Flights.{LandTold, KnownAt, landed_as}
use Rattle.cluster_turns.specs.Told.{has_no_flight}

-- one turn: on which shard, with which event, what it was answered, and the entry that it made, if any
pub record Turn : Type 0 where
  pub shard : ℕ
  pub event : Event
  pub answer : Result Outcome StepError
  pub made : Option Entry

-- the entries that turns made
abbrev pub entry_on : ℕ → Option Entry → History
entry_on n None = []
entry_on n (Some x) = (n, x) ∷ []

abbrev pub entries_made : List Turn → History
entries_made [] = []
entries_made (t ∷ ts) = entry_on t.shard t.made ++ entries_made ts

-- its entry is the walker's, of its event, with what it was answered
abbrev pub IsMadeBy : ℕ → Turn → Type 0
IsMadeBy w t = (x : Entry) → t.made ≡ Some x → (x.walker ≡ w) × (x.event ≡ t.event) × (t.answer ≡ Ok x.outcome)

-- an event of one turn, which takes no flight
abbrev pub takes_no_flight : Event → Result Outcome StepError → Bool
takes_no_flight FlushOut r = has_no_flight r
takes_no_flight e r = is_single e

module _ {T : Type 0} where
  -- the walker w, with these passes and this clock, took these turns; then it has those. A turn that takes a flight is followed by the one that lands it.
  -- Between two turns it may look at a horizon
  pub data Took (w : ℕ) : ℕ → List (Option (Pass T Note Origin)) → List Turn → ℕ → List (Option (Pass T Note Origin)) → Type 0 where
    no_turn : (clock : ℕ) (ps : List (Option (Pass T Note Origin))) → Took w clock ps [] clock ps
    event_turn :
        (clock c clock' : ℕ) (ps qs rs : List (Option (Pass T Note Origin))) (t : Turn) (ts : List Turn) (walked : Walked (EventTold clock w t.event t.answer c) t.shard w ps qs)
        → t.made ≡ walked.turned.told.made → takes_no_flight t.event t.answer ≡ true → Took w c qs ts clock' rs → Took w clock ps (t ∷ ts) clock' rs
    flush_turns :
        (clock c d clock' upto : ℕ) (pushed : Bool) (ps ms qs rs : List (Option (Pass T Note Origin))) (t u : Turn) (ts : List Turn) (out : Walked (EventTold clock w t.event t.answer c) t.shard w ps ms)
        (back : Walked (LandTold c w pushed upto d) t.shard w ms qs) → t.event ≡ FlushOut → t.answer ≡ Ok (Out upto) → t.made ≡ out.turned.told.made → u.shard ≡ t.shard → u.event ≡ FlushIn → u.answer ≡ Ok (landed_as pushed upto)
        → u.made ≡ Some back.turned.told.made → (pushed ≡ true → KnownAt t.shard upto qs) → Took w d qs ts clock' rs → Took w clock ps (t ∷ u ∷ ts) clock' rs
    horizon_look :
        (clock clock' n horizon : ℕ) (ps qs rs : List (Option (Pass T Note Origin))) (ts : List Turn) → Looked n ps horizon qs → Took w clock qs ts clock' rs
        → Took w clock ps ts clock' rs

-- no turn of these is a session's
abbrev pub AreOthers : List Turn → Type 0
AreOthers ts = AllByRecursion (λ t. is_of_session t.event ≡ false) ts

-- one of them found the shard down, or put it down as its flush failed
abbrev pub FindsDown : ℕ → Turn → Type 0
FindsDown n t = (t.shard ≡ n) × ((t.answer ≡ Ok Down) ⊎ (t.answer ≡ Ok Failed))

abbrev pub AnyTurn : (Turn → Type 0) → List Turn → Type 0
AnyTurn P [] = ⊥
AnyTurn P (t ∷ ts) = P t ⊎ AnyTurn P ts

abbrev pub FoundDown : ℕ → List Turn → Type 0
FoundDown n ts = AnyTurn (FindsDown n) ts

-- an event of one of them would have had a stamp past the last
abbrev pub FindsWorn : ℕ → Turn → Type 0
FindsWorn at t = t.answer ≡ Err (Worn at)

abbrev pub FoundWorn : ℕ → List Turn → Type 0
FoundWorn at ts = AnyTurn (FindsWorn at) ts

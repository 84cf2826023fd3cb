-- Which event a session may offer, whatever becomes of it, and what bounds the stamp of a flush's end.
use Rattle.std.specs.Prelude.{◌≡◌, ℕ, Bool, true, List, [], ◌∷◌, ◌++◌, None}
use Rattle.clv_base.specs.declared.logs.LogRecord.{LogRecord}
use Rattle.clv_base.specs.declared.ops.Answer.TheVariants.{Value}
use Rattle.clv_base.specs.declared.events.Event.{Event}
use Rattle.clv_base.specs.declared.events.Event.TheVariants.{Op, RollTo, Request, Look}
use Rattle.clv_base.specs.declared.events.Outcome.{Outcome}
use Rattle.clv_base.specs.declared.events.Outcome.TheVariants.{Answered, Rolled, Asked, Acknowledged, Dropped}
use Rattle.clv_base.specs.declared.events.Entry.{Entry}
use Rattle.clv_base.specs.State.{Shard}
use Rattle.clv_base.specs.Events.{Does, happen}
use Rattle.clv_base.specs.Restarts.{opened}
use Rattle.clv_base.specs.Sessions.{is_session}
use Rattle.clv_base.specs.Journals.{History}
use Rattle.clv_base.specs.Machines.{Runs}
use Rattle.journal_laws.specs.Worlds.{LandsInTime}

-- an outcome that the event may have
abbrev pub hoped_for : Event → Outcome
hoped_for (Op tx birth nth seen op) = Answered (Value None) 0
hoped_for (RollTo tx nth seen upto) = Rolled
hoped_for (Request tx touched) = Asked
hoped_for (Look tx) = Acknowledged
hoped_for _ = Dropped

-- after these entries the walker's session may make the event on shard n
abbrev pub may_make : List ℕ → ℕ → ℕ → History → ℕ → Event → Bool
may_make splits run walker es n e = is_session splits run walker (es ++ (n, record { stamp = 0; walker = walker; event = e; outcome = hoped_for e }) ∷ [])

-- then its entry goes on the session, whatever the outcome
abbrev pub EachOutcomeGoesOn : Type 0
EachOutcomeGoesOn =
    (splits : List ℕ) (run walker : ℕ) (es : History) (n : ℕ) (e : Entry) (s t : Shard) → may_make splits run walker es n e.event ≡ true → happen s e.event ≡ Does e.outcome t
    → is_session splits run walker (es ++ (n, e) ∷ []) ≡ true

-- on a shard that is up and has records in flight, all stamps so far are below 2^48
abbrev pub FlyingIsInTime : Type 0
FlyingIsInTime = (n run : ℕ) (found : List LogRecord) (es : List Entry) (t : Shard) → Runs (opened n run found) es t → LandsInTime t

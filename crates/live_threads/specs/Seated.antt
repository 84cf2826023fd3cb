-- What the session of a seat did.
use Rattle.std.specs.Prelude.{◌≡◌, IfErr}
use Rattle.rtrb.specs.Ring.{sent, received, SameProducer, SameConsumer}
use Rattle.script_runs.specs.declared.ends.StopCause.{StopCause}
use Rattle.script_runs.specs.Seen.{Seen, Misses, Keeps}
use Rattle.script_runs.specs.Ran.{IsIdle}
use Rattle.live_sessions.specs.Served.{HasServed}
use Rattle.live_threads.specs.declared.seats.Seat.{Seat}

module _ {S W : Type 0} where
  -- it may be served: no transaction is active
  pub record IsReady (seen : S → Seen) (holds : S → Type 0) (seat : Seat S W) : Type 0 where
    pub session : holds seat.place.session
    pub idle : IsIdle (seen seat.place.session)

  -- it was, from its first line to its end
  pub record HasSat {B : Type 0} (seen : S → Seen) (holds : S → Type 0) (base : S → B) (missed : S → Misses) (grounds : S → StopCause → Type 0) (old new : Seat S W) : Type 0 where
    pub session : holds new.place.session
    pub base_is : base new.place.session ≡ base old.place.session
    pub misses : Keeps (missed old.place.session) (missed new.place.session)
    pub served : HasServed new.all_told (received old.inbox.lines) (received new.inbox.lines) (sent old.outbox.answers) (sent new.outbox.answers) (seen old.place.session) (seen new.place.session)
    pub stopped : IfErr new.place.ended (grounds new.place.session)
    pub inbox : SameConsumer old.inbox.lines new.inbox.lines
    pub outbox : SameProducer old.outbox.answers new.outbox.answers

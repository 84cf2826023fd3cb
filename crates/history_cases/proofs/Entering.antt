-- What an entry of a journal may come to, case by case.
use Rattle.std.proofs.Common.{◌≡◌, refl, sym, subst, ℕ, true, false, Bool, List, [], ◌∷◌, ◌++◌, Some}
use Rattle.clv_base.specs.declared.logs.LogRecord.{LogRecord}
use Rattle.clv_base.specs.declared.events.Event.{Event}
use Rattle.clv_base.specs.declared.events.Event.TheVariants.{Op, FlushIn, Restart}
use Rattle.clv_base.specs.declared.events.Outcome.{Outcome}
use Rattle.clv_base.specs.declared.events.Outcome.TheVariants.{Durable, Failed, Up}
use Rattle.clv_base.specs.declared.events.Entry.{Entry}
use Rattle.clv_base.specs.State.{Shard}
use Rattle.clv_base.specs.Events.{Does, finish, happen, put_down, with_durable}
use Rattle.clv_base.specs.Restarts.{log_left, revived, Restarts}
use Rattle.clv_base.specs.Journals.{up_to_restart, reply_state, event_state, after_entry, after_entries, EventMay, FlushMay, RestartMay, MayRun}
use Rattle.history_cases.proofs.Stepping.{Happens, happened}

-- an event of a shard that is up; the end of a flush; a restart
pub data Makes (log : List LogRecord) (s : Shard) : Event → Outcome → Shard → Type 0 where
  by_event : {e : Event} {o : Outcome} {t : Shard} → happen s e ≡ Does o t → Happens s e o t → Makes log s e o t
  by_flush : (n : ℕ) → s.is_up ≡ true → s.flight ≡ Some n → Makes log s FlushIn (Durable n) (finish (with_durable n s))
  by_failure : (n : ℕ) → s.is_up ≡ true → s.flight ≡ Some n → Makes log s FlushIn Failed (put_down s)
  by_restart :
      (epoch : ℕ) (flight_survives : Bool) → s.is_up ≡ false → Restarts s (log_left s flight_survives) epoch (up_to_restart s.run epoch log)
      → Makes log s Restart (Up epoch) (revived s epoch (up_to_restart s.run epoch log))

of_event : (log : List LogRecord) (s t : Shard) (e : Event) (o : Outcome) → happen s e ≡ Does o t → Makes log s e o (reply_state s (happen s e))
of_event log s t e o h = subst (λ r. Makes log s e o (reply_state s r)) (sym h) (by_event h (happened s t e o h))

flushes : (log : List LogRecord) (s : Shard) (o : Outcome) → s.is_up ≡ true → FlushMay s o → Makes log s FlushIn o (event_state log s FlushIn o)
flushes log s (Durable n) u f = by_flush n u f
flushes log s Failed u f = by_failure f.0 u f.1
flushes log s _ u f = absurd f

restarts : (log : List LogRecord) (s : Shard) (o : Outcome) → s.is_up ≡ false → RestartMay log s o → Makes log s Restart o (event_state log s Restart o)
restarts log s (Up epoch) u r = by_restart epoch r.0 u r.1
restarts log s _ u r = absurd r

pub makes : (log : List LogRecord) (s : Shard) (e : Event) (o : Outcome) → EventMay log s e o → Makes log s e o (event_state log s e o)
makes log s FlushIn o m = flushes log s o m.0 m.1
makes log s Restart o m = restarts log s o m.0 m.1
makes log s (Op tx birth nth seen op) o m = of_event log s _ _ o m.1.1
makes log s _ o m = of_event log s _ _ o m.1

-- ---- journals in two parts

pub after_append : (log : List LogRecord) (s : Shard) (xs ys : List Entry) → after_entries log s (xs ++ ys) ≡ after_entries log (after_entries log s xs) ys
after_append log s [] ys = refl
after_append log s (x ∷ xs) ys = after_append log (after_entry log s x) xs ys

pub run_second : (log : List LogRecord) (s : Shard) (xs ys : List Entry) → MayRun log s (xs ++ ys) → MayRun log (after_entries log s xs) ys
run_second log s [] ys m = m
run_second log s (x ∷ xs) ys m = run_second log (after_entry log s x) xs ys m.1

pub run_first : (log : List LogRecord) (s : Shard) (xs ys : List Entry) → MayRun log s (xs ++ ys) → MayRun log s xs
run_first log s [] ys m = tt
run_first log s (x ∷ xs) ys m = (m.0, run_first log (after_entry log s x) xs ys m.1)

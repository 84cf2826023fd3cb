-- How a session goes on behind a call that was stopped.
use Rattle.std.proofs.Common.{◌≡◌, inr, refl, sym, subst, ap, ◌∙◌, ℕ, Bool, Some, Err}
use Rattle.clv_base.specs.declared.names.TxId.{TxId}
use Rattle.clv_base.specs.declared.names.Birth.{Birth}
use Rattle.live_lines.specs.declared.calls.Reply.{Reply}
use Rattle.live_lines.specs.declared.calls.Reply.TheVariants as tells
use Rattle.script_runs.specs.declared.ends.StopCause.{StopCause}
use Rattle.script_runs.specs.declared.ends.StopCause.TheVariants.{Down, Unsettled, Worn, Memory}
use Rattle.script_runs.specs.Seen.{Active, Seen, Misses, IsWornOut}
use Rattle.script_runs.specs.Told.{AbortTold}
use Rattle.live_sessions.specs.declared.answering.Course.{Course}
use Rattle.live_sessions.specs.Served.{IsActive, LeadsBy, reply_by}

-- a cause that ends the session
pub stop_leads : (cause : StopCause) (next : Course) (r : Reply) (v : Seen) → ((n : ℕ) → cause ≡ Down n → ⊥) → r ≡ reply_by cause → next.ended ≡ Some cause → LeadsBy r next v
stop_leads cause next r v other is ended = subst (λ (x : Reply). LeadsBy x next v) (sym is) (by_cause cause other ended)
  where
    by_cause : (why : StopCause) → ((n : ℕ) → why ≡ Down n → ⊥) → next.ended ≡ Some why → LeadsBy (reply_by why) next v
    by_cause (Down n) un e = absurd (un n refl)
    by_cause (Unsettled n) un e = e
    by_cause (Worn at) un e = e
    by_cause Memory un e = e

-- what stopped an abort, stamps alone
stopped_worn :
    (missed : Misses) (why : StopCause) (u v : Seen) → IsActive u → ((tx : TxId) (birth : Birth) (nth : ℕ) (touched : ℕ → Bool) → u.standing ≡ Active tx birth nth touched → AbortTold {A = Unit {0}} missed tx birth touched (Err why) u v)
    → (at : ℕ) × (why ≡ Worn at) × IsWornOut v
stopped_worn missed (Worn at) u v (tx, birth, nth, touched, is) told = (at, refl, (told tx birth nth touched is).3)
stopped_worn missed Memory u v (tx, birth, nth, touched, is) told = absurd (told tx birth nth touched is)
stopped_worn missed (Down n) u v (tx, birth, nth, touched, is) told = absurd (told tx birth nth touched is)
stopped_worn missed (Unsettled n) u v (tx, birth, nth, touched, is) told = absurd (told tx birth nth touched is)

pub down_leads :
    (missed : Misses) (why : StopCause) (u v : Seen) (next : Course) (r : Reply) (n : ℕ) → IsActive u
    → ((tx : TxId) (birth : Birth) (nth : ℕ) (touched : ℕ → Bool) → u.standing ≡ Active tx birth nth touched → AbortTold {A = Unit {0}} missed tx birth touched (Err why) u v)
    → r ≡ tells.Down n → next.ended ≡ Some why → LeadsBy r next v
down_leads missed why u v next r n active told is ended =
    let w = stopped_worn missed why u v active told in
    subst (λ (x : Reply). LeadsBy x next v) (sym is) (inr (w.0, ended ∙ ap Some w.1, w.2))

pub abort_leads :
    (missed : Misses) (why : StopCause) (u v : Seen) (next : Course) (r : Reply) → IsActive u
    → ((tx : TxId) (birth : Birth) (nth : ℕ) (touched : ℕ → Bool) → u.standing ≡ Active tx birth nth touched → AbortTold {A = Unit {0}} missed tx birth touched (Err why) u v)
    → r ≡ reply_by why → next.ended ≡ Some why → LeadsBy r next v
abort_leads missed why u v next r active told is ended =
    let w = stopped_worn missed why u v active told in
    stop_leads why next r v (λ n e. let x : Worn w.0 ≡ Down n = sym w.1 ∙ e in cc) is ended

-- Which outcomes the events of a round have.
use Rattle.std.proofs.Common.{◌≡◌, refl, subst, ◌∙◌, ℕ, zero, suc, Bool, true, false, List, [], ◌∷◌, Option, Some, None, Result, Ok}
use Rattle.clv_base.specs.declared.messages.Message.{Message}
use Rattle.clv_base.specs.declared.events.Event.{Event}
use Rattle.clv_base.specs.declared.events.Event.TheVariants.{FlushOut, Send, Remind}
use Rattle.clv_base.specs.declared.events.Outcome.{Outcome}
use Rattle.clv_base.specs.declared.events.Outcome.TheVariants.{Out, Nothing, Away, Down, Sent, Reminded}
use Rattle.clv_base.specs.declared.events.Entry.{Entry}
use Rattle.clv_base.specs.State.{Shard}
use Rattle.clv_base.specs.Events.{Reply, QuietBeforeWorn, QuietAfterWorn, Does, Quiet, Enters, stamped, happen, happen_up, step, next_stamp, out_event, send_event, remind_with, reminders}
use Rattle.machine_calls.specs.declared.machine.StepError.{StepError}
use Rattle.machine_calls.specs.Steps.{Tells}
use Rattle.law_base.proofs.Shards.{outcome_in}

quiet_outcome : (stamp w : ℕ) (e : Event) (room : Bool) (r : Reply) (o : Outcome) → stamped stamp w e room r ≡ Quiet o → outcome_in r ≡ o
quiet_outcome stamp w e room (QuietBeforeWorn p) o h = cc
quiet_outcome stamp w e true (QuietAfterWorn p) o h = cc
quiet_outcome stamp w e false (QuietAfterWorn p) o h = absurd cc
quiet_outcome stamp w e true (Does p t) o h = absurd cc
quiet_outcome stamp w e false (Does p t) o h = absurd cc

enters_outcome : (stamp w : ℕ) (e : Event) (room : Bool) (r : Reply) (o : Outcome) (t : Shard) → stamped stamp w e room r ≡ Enters o t → outcome_in r ≡ o
enters_outcome stamp w e room (QuietBeforeWorn p) o t h = absurd cc
enters_outcome stamp w e true (QuietAfterWorn p) o t h = absurd cc
enters_outcome stamp w e false (QuietAfterWorn p) o t h = absurd cc
enters_outcome stamp w e true (Does p u) o t h = cc
enters_outcome stamp w e false (Does p u) o t h = absurd cc

-- a call's outcome is what happens
pub told_outcome : (s t : Shard) (clock w : ℕ) (e : Event) (o : Outcome) (made : Option Entry) → Tells (step s clock w e) s clock w e (Ok o) t made → outcome_in (happen s e) ≡ o
told_outcome s t clock w e o None h = quiet_outcome (next_stamp s clock e) w e _ (happen s e) o h.0
told_outcome s t clock w e o (Some x) (p, is, m) = enters_outcome (next_stamp s clock e) w e _ (happen s e) p t m.enters ∙ same is
  where
    same : ◌≡◌ {A = Result Outcome StepError} (Ok o) (Ok p) → p ≡ o
    same h = cc

-- so each call's outcome fits where what happens does
pub fits_by : (f : Outcome → Bool) (e : Event) → ((s : Shard) → f (outcome_in (happen s e)) ≡ true) → (s t : Shard) (clock w : ℕ) (x : Result Outcome StepError) (made : Option Entry) → Tells (step s clock w e) s clock w e x t made
    → (o : Outcome) → x ≡ Ok o → f o ≡ true
fits_by f e fits s t clock w x made told o is =
    subst (λ p. f p ≡ true) (told_outcome s t clock w e o made (subst (λ y. Tells (step s clock w e) s clock w e y t made) is told)) (fits s)

-- ---- each event

abbrev pub fits_flush : Outcome → Bool
fits_flush (Out n) = true
fits_flush Nothing = true
fits_flush Away = true
fits_flush Down = true
fits_flush _ = false

abbrev pub fits_send : Outcome → Bool
fits_send (Sent m) = true
fits_send Nothing = true
fits_send Down = true
fits_send _ = false

abbrev pub fits_remind : Outcome → Bool
fits_remind (Reminded n) = true
fits_remind Nothing = true
fits_remind Down = true
fits_remind _ = false

by_up : (f : Outcome → Bool) (s : Shard) (e : Event) (u : Bool) → f Down ≡ true → f (outcome_in (happen_up s e)) ≡ true → f (outcome_in (elim u [ true ↦ happen_up s e | false ↦ QuietBeforeWorn Down ])) ≡ true
by_up f s e true d h = h
by_up f s e false d h = d

out_fits : (s : Shard) (flight : Option ℕ) (n : ℕ) → fits_flush (outcome_in (out_event s flight n)) ≡ true
out_fits s flight zero = refl
out_fits s (Some n) (suc k) = refl
out_fits s None (suc k) = refl

pub flush_fits : (s : Shard) → fits_flush (outcome_in (happen s FlushOut)) ≡ true
flush_fits s = by_up fits_flush s FlushOut s.is_up refl (out_fits s s.flight _)

send_out : (s : Shard) (ms : List Message) → fits_send (outcome_in (send_event s ms)) ≡ true
send_out s [] = refl
send_out s (m ∷ ms) = refl

pub send_fits : (s : Shard) → fits_send (outcome_in (happen s Send)) ≡ true
send_fits s = by_up fits_send s Send s.is_up refl (send_out s s.outbox)

remind_out : (s : Shard) (os ms : List Message) → fits_remind (outcome_in (remind_with s os ms)) ≡ true
remind_out s [] (m ∷ ms) = refl
remind_out s [] [] = refl
remind_out s (o ∷ os) ms = refl

pub remind_fits : (s : Shard) → fits_remind (outcome_in (happen s Remind)) ≡ true
remind_fits s = by_up fits_remind s Remind s.is_up refl (remind_out s s.outbox (reminders s))

-- What a walker delivers it took out.
use Rattle.std.proofs.Common.{◌≡◌, inl, inr, ℕ, ◌^◌, Bool, true, false, nat_lt, List, [], ◌∷◌, ◌++◌, map, sym, ap, refl, ◌∙◌, subst, Option, Some, None, Result, Ok, Err}
use Rattle.clv_base.specs.declared.messages.Message.{Message}
use Rattle.clv_base.specs.declared.events.Event.TheVariants.{Send}
use Rattle.clv_base.specs.declared.events.Outcome.{Outcome}
use Rattle.clv_base.specs.declared.events.Outcome.TheVariants.{Sent, Down, Nothing}
use Rattle.clv_base.specs.declared.events.Entry.{Entry}
use Rattle.clv_base.specs.State.{Shard}
use Rattle.clv_base.specs.Events.{QuietBeforeWorn, Quiet, next_stamp, stamped, send_event, step}
use Rattle.clv_base.specs.Journals.{History}
use Rattle.clv_base.specs.History.{IsAmong}
use Rattle.turn_lock.specs.declared.pass.Pass.{Pass}
use Rattle.machine_calls.specs.declared.machine.StepError.{StepError}
use Rattle.machine_calls.specs.Steps.{listed, Tells, clock_after}
use Rattle.machine_laws.specs.declared.notes.Note.{Note}
use Rattle.machine_laws.specs.declared.notes.Origin.{Origin}
use Rattle.machine_laws.specs.Notes.{plain}
use Rattle.machine_laws.specs.Homes.{entries_in}
use Rattle.history_replay.specs.Entries.{on_shard}
use Rattle.cluster_turns.specs.Turns.{EventTold}
use Rattle.cluster_turns.specs.Walkers.{kept, Walked}
use Rattle.cluster_turns.specs.declared.carrying.CarryError.{CarryError}
use Rattle.cluster_turns.specs.Carried.{message_of, WasTaken}

quiet_sent : (stamp w : ℕ) (m : Message) (room u : Bool) (out : List Message) (s : Shard) → stamped stamp w Send room (elim u [ true ↦ send_event s out | false ↦ QuietBeforeWorn Down ]) ≡ Quiet (Sent m) → ⊥
quiet_sent stamp w m room false out s h = cc
quiet_sent stamp w m room true [] s h = cc
quiet_sent stamp w m true true (x ∷ xs) s h = cc
quiet_sent stamp w m false true (x ∷ xs) s h = cc

last_among : (n : ℕ) (x : Entry) (h : History) → IsAmong n x (h ++ (n, x) ∷ [])
last_among n x [] = inl refl
last_among n x (f ∷ fs) = inr (last_among n x fs)

made_by : (s t : Shard) (n w clock clock' : ℕ) (m : Message) (made : Option Entry) (before after : History) → Tells (step s clock w Send) s clock w Send (Ok (Sent m)) t made → clock' ≡ clock_after clock (Ok (Sent m)) made
    → after ≡ before ++ on_shard n (entries_in (map plain (listed made))) → WasTaken m clock' after
made_by s t n w clock clock' m None before after h c is = absurd (quiet_sent (next_stamp s clock Send) w m (nat_lt (next_stamp s clock Send) (2 ^ 48)) s.is_up s.outbox s h.0)
made_by s t n w clock clock' m (Some x) before after h c is =
    let same : Sent m ≡ h.0 = (let k = h.1 in cc) in
    (n, x, subst (IsAmong n x) (sym is) (last_among n x before), sym c, ap (λ y. y.outcome) h.2.entry_is ∙ sym same)

module _ {T : Type 0} where
  pub taken_out : (n w clock : ℕ) (m : Message) (clock' : ℕ) (ps qs : List (Option (Pass T Note Origin))) → Walked (EventTold clock w Send (Ok (Sent m)) clock') n w ps qs → WasTaken m clock' (kept qs)
  taken_out n w clock m clock' ps qs walked =
      let t = walked.turned in
      let v = t.told in
      made_by t.s t.t n w clock clock' m v.made (kept ps) (kept qs) v.tells v.clock_is (walked.kept_is ∙ ap (λ l. kept ps ++ on_shard n (entries_in l)) v.added_is)

-- an answer from which a message was read
pub message_back : (from : ℕ) (r : Result Outcome StepError) (m : Message) → Ok (Some m) ≡ message_of from r → r ≡ Ok (Sent m)
message_back from (Ok (Sent x)) m h = ap (λ y. Ok (Sent y)) (same h)
  where
    same : {a b : Message} → ◌≡◌ {A = Result (Option Message) CarryError} (Ok (Some a)) (Ok (Some b)) → b ≡ a
    same e = cc
message_back from (Ok Nothing) m h = absurd cc
message_back from (Ok _) m h = absurd cc
message_back from (Err e) m h = absurd cc

-- and one from which none was
pub no_message : (from : ℕ) (r : Result Outcome StepError) (out : Result (Option Message) CarryError) → out ≡ message_of from r → ((m : Message) → out ≡ Ok (Some m) → ⊥) → (m : Message) → r ≡ Ok (Sent m) → ⊥
no_message from r out is other m h = other m (is ∙ ap (message_of from) h)

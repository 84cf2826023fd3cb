-- A walker after turns that are no session's.
use Rattle.std.proofs.Common.{◌≡◌, refl, ◌∙◌, sym, subst, ℕ, true, List, [], ◌∷◌, Option, Some, None, Result, Ok}
use Rattle.clv_base.specs.declared.events.Event.{Event}
use Rattle.clv_base.specs.declared.events.Event.TheVariants.{Send, Deliver, FlushOut, FlushIn}
use Rattle.clv_base.specs.declared.events.Outcome.{Outcome}
use Rattle.clv_base.specs.declared.events.Outcome.TheVariants.{Out, Sent}
use Rattle.clv_base.specs.declared.messages.Message.{Message}
use Rattle.clv_base.specs.Events.{to_of}
use Rattle.turn_lock.specs.declared.pass.Pass.{Pass}
use Rattle.machine_calls.specs.declared.machine.StepError.{StepError}
use Rattle.machine_laws.specs.declared.notes.Note.{Note}
use Rattle.machine_laws.specs.declared.notes.Origin.{Origin}
use Rattle.cluster_turns.specs.declared.shards.Shards.{Shards}
use Rattle.cluster_turns.specs.declared.shards.Walker.{Walker}
use Rattle.cluster_turns.specs.Turns.{EventTold}
use Rattle.cluster_turns.specs.Walkers.{IsWalker, Walked, Looked}
use Rattle.cluster_turns.specs.declared.flushing.Flushed.{Flushed}
use Rattle.cluster_turns.specs.declared.flushing.FlushError.{FlushError}
use Rattle.cluster_turns.specs.Flights.{landed_as}
use Rattle.cluster_turns.specs.Told.{FlushTold, one_turn, two_turns}
use Rattle.cluster_turns.specs.declared.carrying.Carry.{Carry}
use Rattle.cluster_turns.specs.declared.carrying.CarryError.{CarryError}
use Rattle.cluster_turns.specs.Carried.{BringTold, is_lost, is_brought, CarryTold, none_sent, one_sent}
use Rattle.cluster_closing.specs.Landed.{HasLanded}
use Rattle.cluster_closing.specs.Held.{HoldsNone}
use Rattle.cluster_closing.proofs.Laws.{turns_hold_none, turns_fetch_none}
use Rattle.cluster_turns.specs.CallTurns.{Turn, Took, no_turn, event_turn, flush_turns, horizon_look, takes_no_flight}
use Rattle.session_ops.proofs.Laws.{turns_land}
use Rattle.session_api.specs.Standing.{IsAtRest}

module _ {T : Type 0} where
  -- the walker w took some turns
  abbrev pub TookSome : ℕ → ℕ → List (Option (Pass T Note Origin)) → ℕ → List (Option (Pass T Note Origin)) → Type 0
  TookSome w c ps d qs = (ts : List Turn) × Took w c ps ts d qs

  pub look_took : (w c n horizon : ℕ) (ps qs : List (Option (Pass T Note Origin))) → Looked n ps horizon qs → TookSome w c ps c qs
  look_took w c n horizon ps qs looked = ([], horizon_look c c n horizon ps qs qs [] looked (no_turn c qs))

  pub event_took : (w n c d : ℕ) (e : Event) (r : Result Outcome StepError) (ps qs : List (Option (Pass T Note Origin))) → Walked (EventTold c w e r d) n w ps qs → takes_no_flight e r ≡ true → TookSome w c ps d qs
  event_took w n c d e r ps qs walked stays =
      let t : Turn = record { shard = n; event = e; answer = r; made = walked.turned.told.made } in (t ∷ [], event_turn c d d ps qs qs t [] walked refl stays (no_turn d qs))

  pub flush_took : (n w c d : ℕ) (ps qs : List (Option (Pass T Note Origin))) (r : Result Flushed FlushError) → FlushTold n w c ps r d qs → TookSome w c ps d qs
  flush_took n w c _ ps _ _ (one_turn x d qs none walked) = event_took w n c d FlushOut x ps qs walked none
  flush_took n w c _ ps _ _ (two_turns upto c1 d pushed qs rs out land known) =
      let t : Turn = record { shard = n; event = FlushOut; answer = Ok (Out upto); made = out.turned.told.made } in
      let u : Turn = record { shard = n; event = FlushIn; answer = Ok (landed_as pushed upto); made = Some land.turned.told.made } in
      (t ∷ u ∷ [], flush_turns c c1 d d upto pushed ps qs rs rs t u [] out land refl refl refl refl refl refl refl known (no_turn d rs))

  bring_took : (w n c c1 d count : ℕ) (m : Message) (ps ms qs : List (Option (Pass T Note Origin))) (r : Result Carry CarryError) → Walked (EventTold c w Send (Ok (Sent m)) c1) n w ps ms → BringTold count m w c1 ms r d qs → TookSome w c ps d qs
  bring_took w n c c1 _ count m ps ms _ _ sent (is_lost past) = event_took w n c c1 Send (Ok (Sent m)) ps ms sent refl
  bring_took w n c c1 _ count m ps ms _ _ sent (is_brought x d qs low walked) =
      let t : Turn = record { shard = n; event = Send; answer = Ok (Sent m); made = sent.turned.told.made } in
      let h = event_took w (to_of m) c1 d (Deliver m c1) x ms qs walked refl in
      (t ∷ h.0, event_turn c c1 d ps ms qs t h.0 sent refl refl h.1)

  pub carry_took : (n w c d count : ℕ) (ps qs : List (Option (Pass T Note Origin))) (r : Result Carry CarryError) → CarryTold count n w c ps r d qs → TookSome w c ps d qs
  carry_took n w c _ count ps _ _ (none_sent x d qs none walked) = event_took w n c d Send x ps qs walked refl
  carry_took n w c _ count ps _ _ (one_sent m c1 ms r d qs sent brought) = bring_took w n c c1 d count m ps ms qs r sent brought

module _ {M S G : Type 0} (sh : Shards M S G) where
  -- it is at rest still
  pub rests_after : (number c d : ℕ) (w v : Walker M S G) → IsAtRest sh number w → IsWalker sh v → v.number ≡ w.number → TookSome w.number c w.passes.items d v.passes.items → IsAtRest sh number v
  rests_after number c d w v rest walker same took = record {
    walker = walker;
    number_is = same ∙ rest.number_is;
    landed = subst (λ k. HasLanded k v.passes.items) (sym same) (turns_land w.number c d w.passes.items v.passes.items took.0 took.1 rest.landed);
    fetched = turns_fetch_none w.number c d w.passes.items v.passes.items took.0 took.1 rest.fetched;
    disks = subst (λ k. HoldsNone k v.passes.items) (sym same) (turns_hold_none None w.number c d w.passes.items v.passes.items took.0 took.1 rest.disks);
  }

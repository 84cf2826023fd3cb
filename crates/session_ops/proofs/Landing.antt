-- Turns, one after another, and whose gates they leave.
use Rattle.std.proofs.Common.{◌≡◌, ◌∙◌, refl, sym, ap, subst, ℕ, true, false, List, Option, None, Result}
use Rattle.std.proofs.lemmas.Bool.{both_ways}
use Rattle.clv_base.specs.declared.events.Event.{Event}
use Rattle.clv_base.specs.declared.events.Event.TheVariants.{Op, RollTo, Request, Look, Drop, Send, Deliver, Remind, FlushOut, FlushIn, Stop, Restart}
use Rattle.clv_base.specs.declared.events.Outcome.{Outcome}
use Rattle.turn_lock.specs.declared.pass.Pass.{Pass}
use Rattle.turn_lock.specs.Journals.{entries_by}
use Rattle.machine_calls.specs.declared.machine.StepError.{StepError}
use Rattle.machine_laws.specs.declared.notes.Note.{Note}
use Rattle.machine_laws.specs.declared.notes.Origin.{Origin}
use Rattle.machine_laws.specs.Notes.{noter}
use Rattle.machine_laws.specs.Homes.{entries_in, taker, is_taker}
use Rattle.cluster_turns.specs.Turns.{EventTold}
use Rattle.cluster_turns.specs.Walkers.{Walked}
use Rattle.cluster_turns.specs.Told.{stayed, flown, one_turn, two_turns}
use Rattle.cluster_closing.specs.Landed.{HasOwn, IsHome, HasLanded}
use Rattle.cluster_closing.proofs.Laws.{events_land, flushes_land}
use Rattle.cluster_turns.specs.CallTurns.{no_turn, event_turn, flush_turns, horizon_look, takes_no_flight}
use Rattle.cluster_turns.proofs.Laws.{one_changes, changed}
use Rattle.session_ops.specs.EndLaws.{TurnsLand, LooksLand}

module _ {T : Type 0} where
  -- a turn that takes no flight
  stays_landed :
      (n w clock c : ℕ) (e : Event) (r : Result Outcome StepError) (ps qs : List (Option (Pass T Note Origin))) → Walked (EventTold clock w e r c) n w ps qs → takes_no_flight e r ≡ true → HasLanded w ps → HasLanded w qs
  stays_landed n w clock c (Op tx birth nth s op) r ps qs h k l = events_land clock w n (Op tx birth nth s op) r c ps qs h refl l
  stays_landed n w clock c (RollTo tx nth s upto) r ps qs h k l = events_land clock w n (RollTo tx nth s upto) r c ps qs h refl l
  stays_landed n w clock c (Request tx ts) r ps qs h k l = events_land clock w n (Request tx ts) r c ps qs h refl l
  stays_landed n w clock c (Look tx) r ps qs h k l = events_land clock w n (Look tx) r c ps qs h refl l
  stays_landed n w clock c (Drop tx) r ps qs h k l = events_land clock w n (Drop tx) r c ps qs h refl l
  stays_landed n w clock c Send r ps qs h k l = events_land clock w n Send r c ps qs h refl l
  stays_landed n w clock c (Deliver m stamp) r ps qs h k l = events_land clock w n (Deliver m stamp) r c ps qs h refl l
  stays_landed n w clock c Remind r ps qs h k l = events_land clock w n Remind r c ps qs h refl l
  stays_landed n w clock c FlushOut r ps qs h k l = flushes_land n w clock ps (stayed r) c qs (one_turn r c qs k h) l
  stays_landed n w clock c FlushIn r ps qs h k l = absurd (both_ways false refl k)
  stays_landed n w clock c Stop r ps qs h k l = absurd (both_ways false refl k)
  stays_landed n w clock c Restart r ps qs h k l = absurd (both_ways false refl k)

  pub looks_land : LooksLand T
  looks_land w n horizon ps qs looked l = record {
    own = changed (HasOwn w) n ps qs looked.q looked.after_is
        (one_changes (HasOwn w) (HasOwn w) n ps looked.p looked.q looked.had (λ x k. k) (λ k. looked.same.3 ∙ k ∙ ap (entries_by noter w) (sym looked.same.2)) l.own);
    home = changed (IsHome w) n ps qs looked.q looked.after_is
        (one_changes (IsHome w) (IsHome w) n ps looked.p looked.q looked.had (λ x k. k) (λ k. ap (λ ns. is_taker (taker None (entries_in ns)) w) looked.same.2 ∙ k) l.home);
  }

  pub turns_land : TurnsLand T
  turns_land w _ _ _ _ _ (no_turn clock ps) l = l
  turns_land w _ _ _ _ _ (event_turn clock c clock' ps qs rs t ts walked made stays h) l = turns_land w c clock' qs rs ts h (stays_landed t.shard w clock c t.event t.answer ps qs walked stays l)
  turns_land w _ _ _ _ _ (flush_turns clock c d clock' upto pushed ps ms qs rs t u ts out back is answer made same lands landed entered known h) l =
      turns_land w d clock' qs rs ts h
      (flushes_land t.shard w clock ps (flown pushed upto) d qs
      (two_turns upto c d pushed ms qs
      (subst (λ r. Walked (EventTold clock w FlushOut r c) t.shard w ps ms) answer (subst (λ e. Walked (EventTold clock w e t.answer c) t.shard w ps ms) is out)) back known)
      l)
  turns_land w _ _ _ _ _ (horizon_look clock clock' n horizon ps qs rs ts looked h) l = turns_land w clock clock' qs rs ts h (looks_land w n horizon ps qs looked l)

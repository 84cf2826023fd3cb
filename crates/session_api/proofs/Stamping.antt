-- The stamps of a call's entries: past the walker's clock before it, and up to the one after it.
use Rattle.std.proofs.Common.{◌≡◌, refl, sym, ap, subst, ℕ, ◌<◌, ◌≤◌, Bool, true, false, List, [], ◌∷◌, ◌++◌, Option, Some, None, Result, arith}
use Rattle.clv_base.specs.declared.events.Event.{Event}
use Rattle.clv_base.specs.declared.events.Event.TheVariants.{FlushIn}
use Rattle.clv_base.specs.declared.events.Outcome.{Outcome}
use Rattle.clv_base.specs.declared.events.Entry.{Entry}
use Rattle.clv_base.specs.Events.{step, land}
use Rattle.clv_base.specs.State.{Shard}
use Rattle.clv_base.specs.Sessions.{is_of_session}
use Rattle.clv_base.specs.Journals.{History}
use Rattle.turn_lock.specs.declared.pass.Pass.{Pass}
use Rattle.machine_calls.specs.declared.machine.StepError.{StepError}
use Rattle.machine_calls.specs.Steps.{Tells, clock_after}
use Rattle.machine_laws.specs.declared.notes.Note.{Note}
use Rattle.machine_laws.specs.declared.notes.Origin.{Origin}
use Rattle.machine_laws.proofs.Laws.{above}
use Rattle.cluster_turns.specs.Turns.{EventTold}
use Rattle.cluster_turns.specs.Flights.{LandTold, landed_as}
use Rattle.cluster_turns.specs.CallTurns.{Turn, Took, no_turn, event_turn, flush_turns, horizon_look, entry_on}
use Rattle.cluster_turns.proofs.Laws.{clock_rises, event_rises}
use Rattle.script_runs.specs.Seen.{AreStamped}
use Rattle.script_runs.proofs.Laws.{stamped_on}
use Rattle.session_api.proofs.Following.{made_in, made_of, made_of_other}

-- the entry that may have been made has such a stamp
abbrev IsStamped : ℕ → ℕ → Option Entry → Type 0
IsStamped clock clock' made = (x : Entry) → made ≡ Some x → (clock < x.stamp) × (x.stamp ≤ clock')

event_stamped : (clock w : ℕ) (e : Event) (r : Result Outcome StepError) (clock' : ℕ) (s t : Shard) (added : List Note) (h : EventTold clock w e r clock' s t added) → IsStamped clock clock' h.made
event_stamped clock w e r clock' s t added h x is = by_made h.made h.tells h.clock_is is
  where
    by_made : (made : Option Entry) → Tells (step s clock w e) s clock w e r t made → clock' ≡ clock_after clock r made → made ≡ Some x → (clock < x.stamp) × (x.stamp ≤ clock')
    by_made None told at some = absurd cc
    by_made (Some y) told at some =
        let same : y ≡ x = cc in
        let stamp : y.stamp ≡ x.stamp = ap (λ z. z.stamp) same in
        let k = above (step s clock w e) s clock w e told.0 t y told.2 in
        ((omega arith), (omega arith))

land_stamped : (clock w : ℕ) (pushed : Bool) (upto clock' : ℕ) (s t : Shard) (added : List Note) (h : LandTold clock w pushed upto clock' s t added) → IsStamped clock clock' (Some h.made)
land_stamped clock w pushed upto clock' s t added h x is =
    let same : h.made ≡ x = cc in
    let stamp : (h.made).stamp ≡ x.stamp = ap (λ z. z.stamp) same in
    let at = h.clock_is in
    let k = above (land s clock w pushed) s clock w FlushIn (landed_as pushed upto) t h.made h.made_is in
    ((omega arith), (omega arith))

with_one : (n : ℕ) (made : Option Entry) (es : History) (k l m : ℕ) → k ≤ l → l ≤ m → IsStamped k l made → AreStamped l m es → AreStamped k m (entry_on n made ++ es)
with_one n None es k l m up more one later = stamped_on [] es k l m up more tt later
with_one n (Some x) es k l m up more one later = stamped_on ((n, x) ∷ []) es k l m up more (one x refl, tt) later

turn_more : (t : Turn) (ts : List Turn) (k l m : ℕ) → k ≤ l → l ≤ m → IsStamped k l t.made → AreStamped l m (made_in ts) → AreStamped k m (made_in (t ∷ ts))
turn_more t ts k l m up more one later = at (is_of_session t.event) refl
  where
    at : (b : Bool) → is_of_session t.event ≡ b → AreStamped k m (made_in (t ∷ ts))
    at true is = subst (AreStamped k m) (sym (made_of t ts is)) (with_one t.shard t.made (made_in ts) k l m up more one later)
    at false is = subst (AreStamped k m) (sym (made_of_other t ts is)) (stamped_on [] (made_in ts) k l m up more tt later)

module _ {T : Type 0} where
  pub made_stamped : (w c d : ℕ) (ps qs : List (Option (Pass T Note Origin))) (ts : List Turn) → Took w c ps ts d qs → AreStamped c d (made_in ts)
  made_stamped w _ _ _ _ _ (no_turn clock ps) = tt
  made_stamped w _ _ _ _ _ (event_turn clock c clock' ps qs rs t ts walked made stays h) =
      turn_more t ts clock c clock' (event_rises clock w t.event t.answer c walked.turned.s walked.turned.t walked.turned.added walked.turned.told) (clock_rises w c clock' qs rs ts h)
      (subst (IsStamped clock c) (sym made) (event_stamped clock w t.event t.answer c walked.turned.s walked.turned.t walked.turned.added walked.turned.told)) (made_stamped w c clock' qs rs ts h)
  made_stamped w _ _ _ _ _ (flush_turns clock c d clock' upto pushed ps ms qs rs t u ts out back is answer made same lands landed entered known h) =
      let first = event_rises clock w t.event t.answer c out.turned.s out.turned.t out.turned.added out.turned.told in
      let one = land_stamped c w pushed upto d back.turned.s back.turned.t back.turned.added back.turned.told in
      let then : c ≤ d = (let l = one (back.turned.told).made refl in let a = l.0 in let b = l.1 in omega arith) in
      let last = clock_rises w d clock' qs rs ts h in
      turn_more t (u ∷ ts) clock c clock' first (omega arith)
      (subst (IsStamped clock c) (sym made) (event_stamped clock w t.event t.answer c out.turned.s out.turned.t out.turned.added out.turned.told))
      (turn_more u ts c d clock' then last (subst (IsStamped c d) (sym entered) one) (made_stamped w d clock' qs rs ts h))
  made_stamped w _ _ _ _ _ (horizon_look clock clock' n horizon ps qs rs ts looked h) = made_stamped w clock clock' qs rs ts h

-- The answers of turns, one after another.
use Rattle.std.proofs.Common.{◌≡◌, ◌∙◌, refl, sym, ap, subst, ℕ, ◌≤◌, ◌^◌, ◌-◌, Bool, true, false, cond, inl, inr, List, [], ◌∷◌, ◌++◌, get_or, get_or-set_same, append_assoc, Option, Some, None, Result, Ok, Err, arith}
use Rattle.std.specs.Prelude.{is_some}
use Rattle.std.specs.List.{AllByRecursion}
use Rattle.std.proofs.lemmas.Bool.{both_ways}
use Rattle.std.proofs.lemmas.List.Elements.{filter-append}
use Rattle.clv_base.specs.declared.events.Event.{Event}
use Rattle.clv_base.specs.declared.events.Event.TheVariants.{Op, RollTo, Request, Look, Drop, Send, Deliver, Remind, FlushOut, FlushIn, Stop, Restart}
use Rattle.clv_base.specs.declared.events.Outcome.{Outcome}
use Rattle.clv_base.specs.declared.events.Outcome.TheVariants.{Failed, Out}
use Rattle.clv_base.specs.declared.events.Entry.{Entry}
use Rattle.clv_base.specs.Sessions.{is_of_session}
use Rattle.clv_base.specs.State.{Shard}
use Rattle.clv_base.specs.Events.{step}
use Rattle.turn_lock.specs.declared.pass.Pass.{Pass}
use Rattle.turn_lock.specs.Passes.{seen}
use Rattle.machine_calls.specs.declared.machine.StepError.{StepError}
use Rattle.machine_calls.specs.declared.machine.StepError.TheVariants.{Worn}
use Rattle.machine_calls.specs.Steps.{NoEntry, Tells, clock_after}
use Rattle.machine_laws.specs.declared.notes.Note.{Note}
use Rattle.machine_laws.specs.declared.notes.Origin.{Origin}
use Rattle.machine_laws.specs.Homes.{is_turned, state_of}
use Rattle.cluster_turns.specs.Turns.{EventTold}
use Rattle.cluster_turns.specs.Walkers.{Walked, kept}
use Rattle.cluster_turns.specs.Flights.{LandTold, landed_as}
use Rattle.cluster_turns.specs.CallTurns.{Turn, Took, no_turn, event_turn, flush_turns, horizon_look, takes_no_flight, IsMadeBy, FindsDown, entry_on, entries_made}
use Rattle.cluster_turns.specs.Answers.{is_kept, may_come_to, HasItsEntry, HasItsOutcome, SeesDown, SawDown, AnswersHaveEntries, OutcomesFit, DownIsSeen, WornIsLast, SessionsGrow, entries_of_session, turns_of_session}
use Rattle.cluster_turns.proofs.Replying.{Told, told_by, failed_down}
use Rattle.cluster_turns.proofs.Taking.{kept_grows, entries_are_made, clock_rises}
use Rattle.law_base.proofs.Lists.{some_inside as past}

-- ---- which events a turn has

pub turned_event : (e : Event) (r : Result Outcome StepError) → takes_no_flight e r ≡ true → is_turned e ≡ true
turned_event (Op tx birth nth seen op) r h = refl
turned_event (RollTo tx nth seen upto) r h = refl
turned_event (Request tx ts) r h = refl
turned_event (Look tx) r h = refl
turned_event (Drop tx) r h = refl
turned_event Send r h = refl
turned_event (Deliver m stamp) r h = refl
turned_event Remind r h = refl
turned_event FlushOut r h = refl
turned_event FlushIn r h = absurd (both_ways false refl h)
turned_event Stop r h = absurd (both_ways false refl h)
turned_event Restart r h = absurd (both_ways false refl h)

never_fails : (e : Event) → is_turned e ≡ true → may_come_to e Failed ≡ true → {X : Type 0} → X
never_fails (Op tx birth nth seen op) k h = absurd (both_ways false refl h)
never_fails (RollTo tx nth seen upto) k h = absurd (both_ways false refl h)
never_fails (Request tx ts) k h = absurd (both_ways false refl h)
never_fails (Look tx) k h = absurd (both_ways false refl h)
never_fails (Drop tx) k h = absurd (both_ways false refl h)
never_fails Send k h = absurd (both_ways false refl h)
never_fails (Deliver m stamp) k h = absurd (both_ways false refl h)
never_fails Remind k h = absurd (both_ways false refl h)
never_fails FlushOut k h = absurd (both_ways false refl h)
never_fails FlushIn k h = absurd (both_ways false refl k)
never_fails Stop k h = absurd (both_ways false refl k)
never_fails Restart k h = absurd (both_ways false refl k)

-- ---- one turn

module _ {T : Type 0} where
  pub told_turn : (n w clock c : ℕ) (e : Event) (r : Result Outcome StepError) (ps qs : List (Option (Pass T Note Origin))) (walked : Walked (EventTold clock w e r c) n w ps qs) → is_turned e ≡ true → Told e r walked.turned.t walked.turned.told.made
  told_turn n w clock c e r ps qs walked k = told_by walked.turned.s walked.turned.t clock w e r walked.turned.told.made k walked.turned.told.tells

has_entry : (t : Turn) (made : Option Entry) → t.made ≡ made → is_some made ≡ is_kept t.answer → HasItsEntry t
has_entry t made is h = ap is_some is ∙ h

landing_has : (u : Turn) (pushed : Bool) (upto : ℕ) (x : Entry) → u.answer ≡ Ok (landed_as pushed upto) → u.made ≡ Some x → HasItsEntry u
landing_has u true upto x answer made = ap is_some made ∙ ap is_kept (sym answer)
landing_has u false upto x answer made = ap is_some made ∙ ap is_kept (sym answer)

landing_comes : (u : Turn) (pushed : Bool) (upto : ℕ) → u.event ≡ FlushIn → u.answer ≡ Ok (landed_as pushed upto) → HasItsOutcome u
landing_comes u true upto event answer = subst (λ r. Rattle.std.specs.Prelude.IfOk r (λ o. may_come_to u.event o ≡ true)) (sym answer) (ap (λ e. may_come_to e (landed_as true upto)) event)
landing_comes u false upto event answer = subst (λ r. Rattle.std.specs.Prelude.IfOk r (λ o. may_come_to u.event o ≡ true)) (sym answer) (ap (λ e. may_come_to e (landed_as false upto)) event)

flush_turned : (t : Turn) → t.event ≡ FlushOut → is_turned t.event ≡ true
flush_turned t is = ap is_turned is

module _ {T : Type 0} where
  pub answers_have_entries : AnswersHaveEntries T
  answers_have_entries w _ _ _ _ _ (no_turn clock ps) = tt
  answers_have_entries w _ _ _ _ _ (event_turn clock c clock' ps qs rs t ts walked made stays h) =
      (has_entry t walked.turned.told.made made (told_turn t.shard w clock c t.event t.answer ps qs walked (turned_event t.event t.answer stays)).entered, answers_have_entries w c clock' qs rs ts h)
  answers_have_entries w _ _ _ _ _ (flush_turns clock c d clock' upto pushed ps ms qs rs t u ts out back is answer made same lands landed entered known h) = (
    has_entry t out.turned.told.made made (told_turn t.shard w clock c t.event t.answer ps ms out (flush_turned t is)).entered,
    (landing_has u pushed upto back.turned.told.made landed entered, answers_have_entries w d clock' qs rs ts h),
  )
  answers_have_entries w _ _ _ _ _ (horizon_look clock clock' n horizon ps qs rs ts looked h) = answers_have_entries w clock clock' qs rs ts h

  pub outcomes_fit : OutcomesFit T
  outcomes_fit w _ _ _ _ _ (no_turn clock ps) = tt
  outcomes_fit w _ _ _ _ _ (event_turn clock c clock' ps qs rs t ts walked made stays h) =
      ((told_turn t.shard w clock c t.event t.answer ps qs walked (turned_event t.event t.answer stays)).comes, outcomes_fit w c clock' qs rs ts h)
  outcomes_fit w _ _ _ _ _ (flush_turns clock c d clock' upto pushed ps ms qs rs t u ts out back is answer made same lands landed entered known h) = (
    (told_turn t.shard w clock c t.event t.answer ps ms out (flush_turned t is)).comes,
    (landing_comes u pushed upto lands landed, outcomes_fit w d clock' qs rs ts h),
  )
  outcomes_fit w _ _ _ _ _ (horizon_look clock clock' n horizon ps qs rs ts looked h) = outcomes_fit w clock clock' qs rs ts h

-- ---- a shard that was found down

no_find : (n upto : ℕ) (t : Turn) {X : Type 0} → t.answer ≡ Ok (Out upto) → FindsDown n t → X
no_find n upto t answer (at, inl down) = let wrong = sym answer ∙ down in absurd cc
no_find n upto t answer (at, inr failed) = let wrong = sym answer ∙ failed in absurd cc

module _ {T : Type 0} where
  walked_down : (Told : Shard → Shard → List Note → Type 0) (n w : ℕ) (ps qs : List (Option (Pass T Note Origin))) (walked : Walked Told n w ps qs) → walked.turned.t.is_up ≡ false → SeesDown n qs
  walked_down Told n w ps qs walked down = record {
    p = walked.q;
    had = λ d. ap (λ l. get_or l n d) walked.after_is ∙ get_or-set_same ps n (Some walked.q) d (past ps n walked.p walked.had);
    origin = walked.turned.origin;
    has_origin = walked.turned.origin_is ∙ walked.turned.has_origin;
    down = ap (λ ns. (state_of walked.turned.origin ns).is_up) walked.turned.seen_is ∙ sym (ap (λ x. x.is_up) walked.turned.t_is.is) ∙ down;
  }

  -- turns before the others, in the same way
  after_more : (n w c b d : ℕ) (ps ms qs : List (Option (Pass T Note Origin))) (us ts : List Turn) → ((v : List Turn) (k : ℕ) (xs : List (Option (Pass T Note Origin))) → Took w b ms v k xs → Took w c ps (us ++ v) k xs) → SawDown n w b ms ts d qs → SawDown n w c ps (us ++ ts) d qs
  after_more n w c b d ps ms qs us ts more s =
      record {
        first = us ++ s.first;
        rest = s.rest;
        turns_are = ap (λ l. us ++ l) s.turns_are ∙ sym (append_assoc us s.first s.rest);
        clock = s.clock;
        passes = s.passes;
        took = more s.first s.clock s.passes s.took;
        takes = s.takes;
        sees = s.sees;
      }

  event_down : (n w clock c : ℕ) (t : Turn) (ps qs : List (Option (Pass T Note Origin))) (walked : Walked (EventTold clock w t.event t.answer c) t.shard w ps qs) → takes_no_flight t.event t.answer ≡ true → FindsDown n t → SeesDown n qs
  event_down n w clock c t ps qs walked stays (at, inl down) =
      subst (λ k. SeesDown k qs) at (walked_down _ t.shard w ps qs walked ((told_turn t.shard w clock c t.event t.answer ps qs walked (turned_event t.event t.answer stays)).down down))
  event_down n w clock c t ps qs walked stays (at, inr failed) =
      never_fails t.event (turned_event t.event t.answer stays)
      (subst (λ r. Rattle.std.specs.Prelude.IfOk r (λ o. may_come_to t.event o ≡ true)) failed (told_turn t.shard w clock c t.event t.answer ps qs walked (turned_event t.event t.answer stays)).comes)

  landing_down :
      (n w clock c upto : ℕ) (pushed : Bool) (t u : Turn) (ps qs : List (Option (Pass T Note Origin))) (walked : Walked (LandTold clock w pushed upto c) t.shard w ps qs) → u.shard ≡ t.shard → u.answer ≡ Ok (landed_as pushed upto) → FindsDown n u
      → SeesDown n qs
  landing_down n w clock c upto true t u ps qs walked same answer (at, inl down) = let wrong = sym answer ∙ down in absurd cc
  landing_down n w clock c upto true t u ps qs walked same answer (at, inr failed) = let wrong = sym answer ∙ failed in absurd cc
  landing_down n w clock c upto false t u ps qs walked same answer (at, found) =
      subst (λ k. SeesDown k qs) (sym same ∙ at) (walked_down _ t.shard w ps qs walked (failed_down walked.turned.s walked.turned.t clock w walked.turned.told.made_is.enters))

  pub down_is_seen : DownIsSeen T
  down_is_seen n w _ _ _ _ _ (no_turn clock ps) found = absurd found
  down_is_seen n w _ _ _ _ _ (event_turn clock c clock' ps qs rs t ts walked made stays h) (inl found) = record {
    first = t ∷ [];
    rest = ts;
    turns_are = refl;
    clock = c;
    passes = qs;
    took = event_turn clock c c ps qs qs t [] walked made stays (no_turn c qs);
    takes = h;
    sees = event_down n w clock c t ps qs walked stays found;
  }
  down_is_seen n w _ _ _ _ _ (event_turn clock c clock' ps qs rs t ts walked made stays h) (inr found) =
      after_more n w clock c clock' ps qs rs (t ∷ []) ts (λ v k xs took. event_turn clock c k ps qs xs t v walked made stays took) (down_is_seen n w c clock' qs rs ts h found)
  down_is_seen n w _ _ _ _ _ (flush_turns clock c d clock' upto pushed ps ms qs rs t u ts out back is answer made same lands landed entered known h) (inl found) = no_find n upto t answer found
  down_is_seen n w _ _ _ _ _ (flush_turns clock c d clock' upto pushed ps ms qs rs t u ts out back is answer made same lands landed entered known h) (inr (inl found)) = record {
    first = t ∷ u ∷ [];
    rest = ts;
    turns_are = refl;
    clock = d;
    passes = qs;
    took = flush_turns clock c d d upto pushed ps ms qs qs t u [] out back is answer made same lands landed entered known (no_turn d qs);
    takes = h;
    sees = landing_down n w c d upto pushed t u ms qs back same landed found;
  }
  down_is_seen n w _ _ _ _ _ (flush_turns clock c d clock' upto pushed ps ms qs rs t u ts out back is answer made same lands landed entered known h) (inr (inr found)) =
      after_more n w clock d clock' ps qs rs (t ∷ u ∷ []) ts (λ v k xs took. flush_turns clock c d k upto pushed ps ms qs xs t u v out back is answer made same lands landed entered known took)
      (down_is_seen n w d clock' qs rs ts h found)
  down_is_seen n w _ _ _ _ _ (horizon_look clock clock' m horizon ps qs rs ts looked h) found =
      after_more n w clock clock clock' ps qs rs [] ts (λ v k xs took. horizon_look clock k m horizon ps qs xs v looked took) (down_is_seen n w clock clock' qs rs ts h found)

-- ---- a clock at its end

pub worn_told : (s t : Shard) (clock w c at : ℕ) (e : Event) (r : Result Outcome StepError) (made : Option Entry) → Tells (step s clock w e) s clock w e r t made → r ≡ Err (Worn at) → c ≡ clock_after clock r made → (at ≡ 2 ^ 48) × (2 ^ 48 - 1 ≤ c)
worn_told s t clock w c at e r (Some x) (o, is, m) worn k = let wrong = sym is ∙ worn in absurd cc
worn_told s t clock w c at e r None h worn k =
    let answer = subst (NoEntry (step s clock w e) s e) worn h.0 in let clock_is = k ∙ ap (λ y. clock_after clock y None) worn in (answer.1, omega arith)

landed_well : (pushed : Bool) (upto at : ℕ) (r : Result Outcome StepError) {X : Type 0} → r ≡ Ok (landed_as pushed upto) → r ≡ Err (Worn at) → X
landed_well pushed upto at r is worn = let wrong = sym is ∙ worn in absurd cc

module _ {T : Type 0} where
  pub worn_is_last : WornIsLast T
  worn_is_last at w _ _ _ _ _ (no_turn clock ps) found = absurd found
  worn_is_last at w _ _ _ _ _ (event_turn clock c clock' ps qs rs t ts walked made stays h) (inl worn) =
      let told = walked.turned.told in
      let now = worn_told walked.turned.s walked.turned.t clock w c at t.event t.answer told.made told.tells worn told.clock_is in let later = clock_rises w c clock' qs rs ts h in (now.0, (let n = now.1 in omega arith))
  worn_is_last at w _ _ _ _ _ (event_turn clock c clock' ps qs rs t ts walked made stays h) (inr found) = worn_is_last at w c clock' qs rs ts h found
  worn_is_last at w _ _ _ _ _ (flush_turns clock c d clock' upto pushed ps ms qs rs t u ts out back is answer made same lands landed entered known h) (inl worn) = let wrong = sym answer ∙ worn in absurd cc
  worn_is_last at w _ _ _ _ _ (flush_turns clock c d clock' upto pushed ps ms qs rs t u ts out back is answer made same lands landed entered known h) (inr (inl worn)) = landed_well pushed upto at u.answer landed worn
  worn_is_last at w _ _ _ _ _ (flush_turns clock c d clock' upto pushed ps ms qs rs t u ts out back is answer made same lands landed entered known h) (inr (inr found)) = worn_is_last at w d clock' qs rs ts h found
  worn_is_last at w _ _ _ _ _ (horizon_look clock clock' n horizon ps qs rs ts looked h) found = worn_is_last at w clock clock' qs rs ts h found

-- ---- entries of sessions

module _ (w : ℕ) where
  entry_of : (t : Turn) (made : Option Entry) → t.made ≡ made → IsMadeBy w t → (us : List Turn) → entries_of_session (entry_on t.shard made) ++ entries_made (turns_of_session us) ≡ entries_made (turns_of_session (t ∷ us))
  entry_of t None is m us = at (is_of_session t.event)
    where
      at : (b : Bool) → entries_made (turns_of_session us) ≡ entries_made (cond b (t ∷ turns_of_session us) (turns_of_session us))
      at true = ap (λ x. entry_on t.shard x ++ entries_made (turns_of_session us)) (sym is)
      at false = refl
  entry_of t (Some x) is m us = ap (λ e. cond (is_of_session e) ((t.shard, x) ∷ []) [] ++ entries_made (turns_of_session us)) (m x is).1 ∙ at (is_of_session t.event)
    where
      at : (b : Bool) → cond b ((t.shard, x) ∷ []) [] ++ entries_made (turns_of_session us) ≡ entries_made (cond b (t ∷ turns_of_session us) (turns_of_session us))
      at true = ap (λ y. entry_on t.shard y ++ entries_made (turns_of_session us)) (sym is)
      at false = refl

  session_turns : (ts : List Turn) → AllByRecursion (IsMadeBy w) ts → entries_of_session (entries_made ts) ≡ entries_made (turns_of_session ts)
  session_turns [] m = refl
  session_turns (t ∷ ts) m =
      filter-append (λ f. is_of_session (f.1).event) (entry_on t.shard t.made) (entries_made ts) ∙ ap (λ l. entries_of_session (entry_on t.shard t.made) ++ l) (session_turns ts m.1) ∙ entry_of t t.made refl m.0 ts

module _ {T : Type 0} where
  pub sessions_grow : SessionsGrow T
  sessions_grow w c d ps qs ts took =
      ap entries_of_session (kept_grows w c d ps qs ts took) ∙ filter-append (λ f. is_of_session (f.1).event) (kept ps) (entries_made ts)
      ∙ ap (λ l. entries_of_session (kept ps) ++ l) (session_turns w ts (entries_are_made w c d ps qs ts took))

-- What one step makes of a world.
use Rattle.std.proofs.Common.{◌≡◌, refl, sym, ap, subst, ◌∙◌, ℕ, true, false, ◌&&◌, Bool, List, Some, None}
use Rattle.std.specs.Prelude.{slice_get}
use Rattle.std.proofs.lemmas.Bool.{both_ways, and_from, and_parts}
use Rattle.clv_base.specs.declared.events.CoreStep.{CoreStep}
use Rattle.clv_base.specs.declared.logs.LogRecord.{LogRecord}
use Rattle.clv_base.specs.declared.events.Event.{Event}
use Rattle.clv_base.specs.declared.events.Event.TheVariants.{Op, Request, Look, Drop, Send, Deliver, Remind, FlushOut, FlushIn, Stop, Restart, RollTo}
use Rattle.clv_base.specs.declared.events.Outcome.{Outcome}
use Rattle.clv_base.specs.Shards.{are_splits}
use Rattle.clv_base.specs.State.{Shard}
use Rattle.clv_base.specs.Events.{CallAnswer, Quiet, Worn, Enters, Does, happen}
use Rattle.clv_base.specs.Machines.{BecomesBy}
use Rattle.clv_base.specs.Core.{World, clock_of, step_answer, after_answer, entry_of}
use Rattle.clv_base.specs.Journals.{own, has_no_equal_active_birth}
use Rattle.clv_base.specs.Runs.{was_sent, goes_on_session, is_allowed, run_answered, run_on}
use Rattle.clv_base.specs.Sessions.{is_session, is_of_session}
use Rattle.journal_laws.specs.Worlds.{Steady}
use Rattle.journal_laws.proofs.SteadyIsLegal.{steps_keep_steady}
use Rattle.journal_laws.proofs.SteadyIsLegal.AnsweredStepsMakeEntries.{answers}
use Rattle.crash_laws.specs.Moves.{is_idle}
use Rattle.crash_laws.specs.Running.{run_step, session_may, is_offered}
use Rattle.crash_laws.proofs.Steps.WhichStepsAreTaken.{refuses, allows}

-- ---- the ways of a step

by_shard : (splits : List ℕ) (w : World) (c : CoreStep) (s : Shard) (v : World) → slice_get w.shards c.shard ≡ Some s → run_answered splits w c s (step_answer w c s) ≡ v → run_on splits w c (slice_get w.shards c.shard) ≡ v
by_shard splits w c s v g h = ap (run_on splits w c) g ∙ h

-- no entry is allowed
none_allowed : (splits : List ℕ) (w : World) (c : CoreStep) (s : Shard) (a : CallAnswer) → ((o : Outcome) (t : Shard) → a ≡ Enters o t → is_allowed splits w s (c.shard, entry_of c o t) ≡ false) → run_answered splits w c s a ≡ w
none_allowed splits w c s (Quiet o) k = refl
none_allowed splits w c s Worn k = refl
none_allowed splits w c s (Enters o t) k = ap (λ b. elim b [ true ↦ after_answer w c (Enters o t) | false ↦ w ]) (k o t refl)

last_false : (a b c : Bool) → c ≡ false → ((a && b) && c) ≡ false
last_false true true c h = h
last_false true false c h = refl
last_false false b c h = refl

second_false : (a b c : Bool) → b ≡ false → ((a && b) && c) ≡ false
second_false true true c h = absurd (both_ways true h refl)
second_false true false c h = refl
second_false false b c h = refl

-- it isn't offered, so nothing is made of it
pub refused_step : (splits : List ℕ) (w : World) (c : CoreStep) (s : Shard) → slice_get w.shards c.shard ≡ Some s → s.run ≡ 1 → is_session splits 1 c.walker (own c.walker w.history) ≡ true
    → is_offered splits w.history c.walker c.shard c.event ≡ false → run_step splits w c ≡ w
refused_step splits w c s g one k h = at (session_may splits w.history c.walker c.shard c.event) (was_sent w.history c.event) refl refl h
  where
    at : (b d : Bool) → session_may splits w.history c.walker c.shard c.event ≡ b → was_sent w.history c.event ≡ d → (b && d) ≡ false → run_on splits w c (slice_get w.shards c.shard) ≡ w
    at true true q r m = absurd (both_ways true m refl)
    at true false q r m =
        by_shard splits w c s w g (none_allowed splits w c s (step_answer w c s)
        (λ o t e. last_false (has_no_equal_active_birth s c.event) (goes_on_session splits w s.run (c.shard, entry_of c o t)) (was_sent w.history c.event) r))
    at false d q r m =
        by_shard splits w c s w g (none_allowed splits w c s (step_answer w c s)
        (λ o t e. second_false (has_no_equal_active_birth s c.event) (goes_on_session splits w s.run (c.shard, entry_of c o t)) (was_sent w.history c.event)
        (subst (λ r. goes_on_session splits w r (c.shard, entry_of c o t) ≡ false) (sym one) (refuses splits w c.shard (entry_of c o t) k q))))

-- another transaction's part of its birth is active there
first_false : (a b c : Bool) → a ≡ false → ((a && b) && c) ≡ false
first_false true b c h = absurd (both_ways true h refl)
first_false false b c h = refl

pub rival_step : (splits : List ℕ) (w : World) (c : CoreStep) (s : Shard) → slice_get w.shards c.shard ≡ Some s → has_no_equal_active_birth s c.event ≡ false → run_step splits w c ≡ w
rival_step splits w c s g h =
    by_shard splits w c s w g (none_allowed splits w c s (step_answer w c s)
    (λ o t e. first_false (has_no_equal_active_birth s c.event) (goes_on_session splits w s.run (c.shard, entry_of c o t)) (was_sent w.history c.event) h))

-- it makes no entry
idle_answer : (splits : List ℕ) (w : World) (c : CoreStep) (s : Shard) (a : CallAnswer) → is_idle a ≡ true → run_answered splits w c s a ≡ w
idle_answer splits w c s (Quiet o) h = refl
idle_answer splits w c s Worn h = refl
idle_answer splits w c s (Enters o t) h = absurd (both_ways false refl h)

pub idle_step : (splits : List ℕ) (w : World) (c : CoreStep) (s : Shard) → slice_get w.shards c.shard ≡ Some s → is_idle (step_answer w c s) ≡ true → run_step splits w c ≡ w
idle_step splits w c s g h = by_shard splits w c s w g (idle_answer splits w c s (step_answer w c s) h)

-- there is no such shard
pub no_shard : (splits : List ℕ) (w : World) (c : CoreStep) → slice_get w.shards c.shard ≡ None → run_step splits w c ≡ w
no_shard splits w c g = ap (run_on splits w c) g

-- it makes its entry
does_of : (s t : Shard) (e : Event) (o : Outcome) → BecomesBy s e o t → is_of_session e ≡ true → happen s e ≡ Does o t
does_of s t (Op tx birth nth seen op) o b h = b.1
does_of s t (RollTo tx nth seen upto) o b h = b
does_of s t (Request tx ts) o b h = b
does_of s t (Look tx) o b h = b
does_of s t (Drop tx) o b h = b
does_of s t Send o b h = absurd (both_ways false refl h)
does_of s t (Deliver m stamp) o b h = absurd (both_ways false refl h)
does_of s t Remind o b h = absurd (both_ways false refl h)
does_of s t FlushOut o b h = absurd (both_ways false refl h)
does_of s t FlushIn o b h = absurd (both_ways false refl h)
does_of s t Stop o b h = absurd (both_ways false refl h)
does_of s t Restart o b h = absurd (both_ways false refl h)

pub taken_step : (splits : List ℕ) (w : World) (c : CoreStep) (s : Shard) (o : Outcome) (t : Shard) → slice_get w.shards c.shard ≡ Some s → s.run ≡ 1 → has_no_equal_active_birth s c.event ≡ true
    → is_offered splits w.history c.walker c.shard c.event ≡ true → step_answer w c s ≡ Enters o t → run_step splits w c ≡ after_answer w c (Enters o t)
taken_step splits w c s o t g one free h a =
    let q = and_parts (session_may splits w.history c.walker c.shard c.event) (was_sent w.history c.event) h in
    by_shard splits w c s (after_answer w c (Enters o t)) g
    (ap (run_answered splits w c s) a
    ∙ ap (λ b. elim b [ true ↦ after_answer w c (Enters o t) | false ↦ w ])
    (and_from (has_no_equal_active_birth s c.event && goes_on_session splits w s.run (c.shard, entry_of c o t)) (was_sent w.history c.event)
    (and_from (has_no_equal_active_birth s c.event) (goes_on_session splits w s.run (c.shard, entry_of c o t)) free (goes q.0)) q.1))
  where
    goes : session_may splits w.history c.walker c.shard c.event ≡ true → goes_on_session splits w s.run (c.shard, entry_of c o t) ≡ true
    goes m =
        let x = answers s (clock_of c.walker w.history) c c.event o t a free in
        subst (λ r. goes_on_session splits w r (c.shard, entry_of c o t) ≡ true) (sym one)
        (allows splits w c.shard (entry_of c o t) s x.after m (λ q. does_of s x.after c.event o x.becomes q))

-- the rules are kept
pub steady_step : (splits : List ℕ) (before : List (List LogRecord)) (w : World) (c : CoreStep) → are_splits splits ≡ true → Steady splits before w → Steady splits before (run_step splits w c)
steady_step splits before w c few k = steps_keep_steady splits before w c few k

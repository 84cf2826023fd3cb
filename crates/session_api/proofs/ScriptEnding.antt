-- Commits and aborts, as whoever runs a script is told of them.
use Rattle.std.proofs.Common.{◌≡◌, ◌∙◌, refl, sym, ap, subst, ℕ, ◌^◌, Bool, true, false, List, [], ◌++◌, length, Some, None, Result, Ok, Err, inl, inr}
use Rattle.std.specs.Prelude.{⊤, IfErr}
use Rattle.clv_base.specs.declared.names.TxId.{TxId}
use Rattle.clv_base.specs.declared.names.Birth.{Birth}
use Rattle.clv_base.specs.declared.names.Point.{Point}
use Rattle.clv_base.specs.declared.events.Event.{Event}
use Rattle.clv_base.specs.declared.events.Event.TheVariants.{Request}
use Rattle.clv_base.specs.declared.events.Outcome.{Outcome}
use Rattle.clv_base.specs.declared.events.Outcome.TheVariants as out
use Rattle.clv_base.specs.Sessions.{SessionState, Phase, Touching, Ended, Standing as IsStanding, Told, Refused, is_touching}
use Rattle.cluster_turns.specs.declared.shards.Shards.{Shards}
use Rattle.cluster_turns.specs.declared.shards.Walker.{Walker}
use Rattle.cluster_turns.specs.declared.shards.WornClock.{WornClock}
use Rattle.cluster_turns.specs.Walkers.{IsSameWalker}
use Rattle.machine_calls.specs.declared.machine.StepError.{StepError}
use Rattle.machine_calls.specs.declared.machine.StepError.TheVariants as step
use Rattle.cluster_turns.specs.CallTurns.{Turn, Took, FindsDown, FindsWorn, FoundDown, FoundWorn}
use Rattle.cluster_turns.proofs.Laws.{worn_is_last}
use Rattle.session_ops.specs.Standing.{IsTurnOf}
use Rattle.session_ops.specs.Dropped.{Dropping, IsLeft}
use Rattle.session_ops.specs.Standings.{IsUnasked}
use Rattle.session_ops.specs.declared.settled_looking.SettleError.{SettleError}
use Rattle.session_ops.specs.declared.settled_looking.SettleError.TheVariants as settle
use Rattle.session_ops.specs.declared.committing.Settled.{Settled}
use Rattle.session_ops.specs.declared.committing.Settled.TheVariants.{Committed, Empty}
use Rattle.session_ops.specs.declared.committing.CommitError.{CommitError as CommitFailure}
use Rattle.session_ops.specs.declared.committing.CommitError.TheVariants as unmade
use Rattle.session_ops.specs.Decided.{DecidedBy, committed_as}
use Rattle.session_ops.specs.Committed.{CommittedBy, CommitTold as Commits}
use Rattle.script_runs.specs.declared.ends.StopCause.{StopCause}
use Rattle.script_runs.specs.declared.ends.StopCause.TheVariants as stop
use Rattle.script_runs.specs.declared.ends.TryEnd.{TryEnd}
use Rattle.script_runs.specs.declared.ends.TryEnd.TheVariants as end
use Rattle.script_runs.specs.Seen.{Idle, Active, Grows}
use Rattle.script_runs.specs.Told.{CommitTold, AbortTold}
use Rattle.script_runs.specs.Tried.{OnStop}
use Rattle.session_api.specs.declared.progress.Progress.{Progress}
use Rattle.session_api.specs.declared.progress.Progress.TheVariants as progress
use Rattle.session_api.specs.declared.ending.CommitError.{CommitError}
use Rattle.session_api.specs.declared.ending.AbortError.{AbortError}
use Rattle.session_api.specs.Progresses.{commit_told, abort_told, is_nothing, after_commit, progress_committed, progress_aborted}
use Rattle.session_api.specs.Sessions.{IsSession, CommitMade, CommitCalled, AbortMade, AbortCalled}
use Rattle.session_api.specs.Seeing.{seen_as, touched_in, is_active, by_phase, after_commit as commit_leaves, asked_after, after_abort as abort_leaves, commit_end, abort_end}
use Rattle.session_api.proofs.Committing.{commits_tell}
use Rattle.session_api.proofs.Leaving.{aborts_tell}
use Rattle.script_lang.specs.Savepoints.{Savepoints}
use Rattle.script_runs.specs.Seen.{Going}
use Rattle.law_base.proofs.Changed.{none_some}
use Rattle.session_api.specs.Savepoints.{going_of}
use Rattle.session_api.specs.Standing.{Holds, active_as, standing_of, seen_in}
use Rattle.session_api.specs.Grounds.{Grounds, HasMissed}
use Rattle.session_api.proofs.Standings.{read_active, of_this, idle_active, asked_active, stays_grown, worn_still}
use Rattle.session_api.proofs.Taking.{HoldsOn, found_down, grounds_stay, held_after, held_so}
use Rattle.session_api.proofs.ScriptOperating.{IsUnderWay}
use Rattle.law_base.proofs.Shards.{touching_is as touching_phase}
use Rattle.session_ops.proofs.Laws.{any_before, any_after as any_behind}

-- ---- how a commit leaves the transaction

-- by how far it is
phase_stands : (q : SessionState) (birth : Birth) → q.birth ≡ Some birth → (stamp : ℕ) (x : Phase) → standing_of (after_commit q stamp x) ≡ by_phase q birth x
phase_stands q birth is stamp Touching = ap (active_as q) is
phase_stands q birth is stamp Ended = ap (λ b. Idle b) is
phase_stands q birth is stamp (IsStanding home) = refl
phase_stands q birth is stamp Told = refl
phase_stands q birth is stamp Refused = ap (λ b. Idle b) is

-- what the place is after a commit, whose answer is this
pub record PlaceIs (p q : SessionState) (r : Result Settled CommitFailure) : Type 0 where
  pub birth : q.birth ≡ p.birth
  pub stands : (stamp : ℕ) (birth : Birth) → q.birth ≡ Some birth → standing_of (progress_committed q stamp (is_nothing r)) ≡ commit_leaves q birth r

place_is : (p q : SessionState) (r : Result Settled CommitFailure) (x : Phase) → q.birth ≡ p.birth → q.phase ≡ x → ((birth : Birth) → by_phase q birth x ≡ commit_leaves q birth r) → is_nothing r ≡ false → PlaceIs p q r
place_is p q r x birth phase leaves made = record {
  birth = birth;
  stands = λ stamp b is. ap (λ k. standing_of (progress_committed q stamp k)) made ∙ ap (λ y. standing_of (after_commit q stamp y)) phase ∙ phase_stands q b is stamp x ∙ leaves b;
}

decided_place : (count n : ℕ) (p q : SessionState) (asked : Point) (d : Result Point SettleError) (ts : List Turn) → DecidedBy count n p d ts q → PlaceIs p q (committed_as asked d)
decided_place count n p q asked (Ok point) ts h = place_is p q (Ok (Committed asked)) Told (ap (λ z. z.birth) h.1) (ap (λ z. z.phase) h.1) (λ b. refl) refl
decided_place count n p q asked (Err (settle.Aborted cause)) ts h = place_is p q (Err (unmade.Aborted cause)) Refused (ap (λ z. z.birth) h.2) (ap (λ z. z.phase) h.2) (λ b. refl) refl
decided_place count n p q asked (Err (settle.Unsettled m)) ts h = place_is p q (Err (unmade.Unsettled m)) (IsStanding n) (ap (λ z. z.birth) h.2) (ap (λ z. z.phase) h.2) (λ b. refl) refl
decided_place count n p q asked (Err (settle.Worn at)) ts h = place_is p q (Err (unmade.Worn at)) (IsStanding n) (ap (λ z. z.birth) h.1) (ap (λ z. z.phase) h.1) (λ b. ap (by_phase q b) (sym (ap (λ z. z.phase) h.1))) refl
decided_place count n p q asked (Err settle.Memory) ts h = place_is p q (Err unmade.Memory) (IsStanding n) (ap (λ z. z.birth) h) (ap (λ z. z.phase) h) (λ b. ap (by_phase q b) (sym (ap (λ z. z.phase) h))) refl

-- it stands as before
same_place : (p q : SessionState) (r : Result Settled CommitFailure) → is_touching p.phase ≡ true → q ≡ p → ((birth : Birth) → by_phase q birth q.phase ≡ commit_leaves q birth r) → is_nothing r ≡ false → PlaceIs p q r
same_place p q r touching is leaves made = place_is p q r q.phase (ap (λ z. z.birth) is) refl leaves made

down_leaves : (n : ℕ) (p q : SessionState) (birth : Birth) → is_touching p.phase ≡ true → q ≡ p → by_phase q birth q.phase ≡ commit_leaves q birth (Err (unmade.Down n))
down_leaves n p q birth touching is = ap (by_phase q birth) (ap (λ z. z.phase) is ∙ touching_phase p.phase touching)

committed_place : (count n : ℕ) (p q : SessionState) (asked : Point) (answer : Result Outcome StepError) (r : Result Settled CommitFailure) (ts : List Turn) → is_touching p.phase ≡ true → CommittedBy count n p asked answer r ts q → PlaceIs p q r
committed_place count n p q asked (Ok out.Asked) r ts touching h = subst (PlaceIs p q) (sym h.1) (decided_place count n p q asked h.0 ts h.2)
committed_place count n p q asked (Ok (out.Dead cause)) r ts touching h =
    subst (PlaceIs p q) (sym h.0) (place_is p q (Err (unmade.Aborted cause)) Ended (ap (λ z. z.birth) h.2) (ap (λ z. z.phase) h.2) (λ b. refl) refl)
committed_place count n p q asked (Ok out.Down) r ts touching h = subst (PlaceIs p q) (sym h.0) (same_place p q (Err (unmade.Down n)) touching h.2 (λ b. down_leaves n p q b touching h.2) refl)
committed_place count n p q asked (Err step.Memory) r ts touching h = subst (PlaceIs p q) (sym h.0) (same_place p q (Err unmade.Memory) touching h.2 (λ b. refl) refl)
committed_place count n p q asked (Err (step.Worn at)) r ts touching h = subst (PlaceIs p q) (sym h.0) (same_place p q (Err (unmade.Worn at)) touching h.2 (λ b. refl) refl)
committed_place count n p q asked (Ok _) r ts touching h = absurd h

pub place_after_commit : {M S G : Type 0} (count : ℕ) (w v : Walker M S G) (p q : SessionState) (stamp : ℕ) (r : Result Settled CommitFailure) → is_touching p.phase ≡ true → Commits count w p stamp r v q → PlaceIs p q r
place_after_commit count w v p q stamp r touching (inl h) = subst (PlaceIs p q) (sym h.1) (record { birth = ap (λ z. z.birth) h.3; stands = λ k b is. refl })
place_after_commit count w v p q stamp r touching (inr h) = committed_place count h.0 p q (record { stamp = stamp; shard = h.0 }) (h.2).answer r (h.2).rest touching (h.2).told

-- ---- what a commit was stopped by

turn_down : (n : ℕ) (e : Event) (ts : List Turn) → IsTurnOf n e (Ok out.Down) ts → FoundDown n ts
turn_down n e ts (inl h) = let k : ◌≡◌ {A = Result Outcome StepError} (Ok out.Down) (Err step.Memory) = h.0 in absurd cc
turn_down n e ts (inr h) = subst (FoundDown n) (sym h.1) (inl (h.2, inl h.4))

turn_worn : (n at : ℕ) (e : Event) (ts : List Turn) → IsTurnOf n e (Err (step.Worn at)) ts → FoundWorn at ts
turn_worn n at e ts (inl h) = let k : ◌≡◌ {A = Result Outcome StepError} (Err (step.Worn at)) (Err step.Memory) = h.0 in absurd cc
turn_worn n at e ts (inr h) = subst (FoundWorn at) (sym h.1) (inl h.4)

-- the turns tell the cause
abbrev pub FoundBy : List Turn → StopCause → Type 0
FoundBy ts (stop.Down n) = FoundDown n ts
FoundBy ts (stop.Unsettled n) = FoundDown n ts
FoundBy ts (stop.Worn at) = FoundWorn at ts
FoundBy ts stop.Memory = ⊤

decided_found : (count n : ℕ) (p q : SessionState) (asked : Point) (d : Result Point SettleError) (xs ts : List Turn) → DecidedBy count n p d ts q → OnStop (FoundBy (xs ++ ts)) (commit_end (committed_as asked d))
decided_found count n p q asked (Ok point) xs ts h = tt
decided_found count n p q asked (Err (settle.Aborted cause)) xs ts h = tt
decided_found count n p q asked (Err (settle.Unsettled m)) xs ts h = any_behind (FindsDown m) xs ts h.0
decided_found count n p q asked (Err (settle.Worn at)) xs ts h = any_behind (FindsWorn at) xs ts h.0
decided_found count n p q asked (Err settle.Memory) xs ts h = tt

commit_found : (count n : ℕ) (p q : SessionState) (asks : Point) (e : Event) (answer : Result Outcome StepError) (r : Result Settled CommitFailure) (xs ts : List Turn) → IsTurnOf n e answer xs → CommittedBy count n p asks answer r ts q → OnStop (FoundBy (xs ++ ts)) (commit_end r)
commit_found count n p q asks e (Ok out.Asked) r xs ts asked h = subst (λ x. OnStop (FoundBy (xs ++ ts)) (commit_end x)) (sym h.1) (decided_found count n p q asks h.0 xs ts h.2)
commit_found count n p q asks e (Ok (out.Dead cause)) r xs ts asked h = subst (λ x. OnStop (FoundBy (xs ++ ts)) (commit_end x)) (sym h.0) tt
commit_found count n p q asks e (Ok out.Down) r xs ts asked h = subst (λ x. OnStop (FoundBy (xs ++ ts)) (commit_end x)) (sym h.0) (any_before (FindsDown n) xs ts (turn_down n e xs asked))
commit_found count n p q asks e (Ok _) r xs ts asked h = absurd h
commit_found count n p q asks e (Err step.Memory) r xs ts asked h = subst (λ x. OnStop (FoundBy (xs ++ ts)) (commit_end x)) (sym h.0) tt
commit_found count n p q asks e (Err (step.Worn at)) r xs ts asked h = subst (λ x. OnStop (FoundBy (xs ++ ts)) (commit_end x)) (sym h.0) (any_before (FindsWorn at) xs ts (turn_worn n at e xs asked))

module _ {M S G : Type 0} where
  cause_grounds : (w v : Walker M S G) (ts : List Turn) → Took w.number w.clock w.passes.items ts v.clock v.passes.items → (cause : StopCause) → FoundBy ts cause → Grounds v cause
  cause_grounds w v ts took (stop.Down n) h = found_down n w.number w.clock v.clock w.passes.items v.passes.items ts took h
  cause_grounds w v ts took (stop.Unsettled n) h = found_down n w.number w.clock v.clock w.passes.items v.passes.items ts took h
  cause_grounds w v ts took (stop.Worn at) h = worn_is_last at w.number w.clock v.clock w.passes.items v.passes.items ts took h
  cause_grounds w v ts took stop.Memory h = tt

  end_grounds : (w v : Walker M S G) (ts : List Turn) → Took w.number w.clock w.passes.items ts v.clock v.passes.items → (e : TryEnd) → OnStop (FoundBy ts) e → OnStop (Grounds v) e
  end_grounds w v ts took end.Acknowledged h = tt
  end_grounds w v ts took end.Empty h = tt
  end_grounds w v ts took end.Asked h = tt
  end_grounds w v ts took (end.Aborted cause) h = tt
  end_grounds w v ts took (end.Stopped cause) h = cause_grounds w v ts took cause h

-- ---- the point of the last request

asked_as : (asked : Point) (r : Result Settled CommitFailure) → asked_after asked (commit_told r) ≡ asked_after asked r
asked_as asked (Ok (Committed point)) = refl
asked_as asked (Ok Empty) = refl
asked_as asked (Err (unmade.Aborted cause)) = refl
asked_as asked (Err (unmade.Down n)) = refl
asked_as asked (Err (unmade.Unsettled n)) = refl
asked_as asked (Err (unmade.Worn at)) = refl
asked_as asked (Err unmade.Memory) = refl

module _ {M S G : Type 0} (sh : Shards M S G) (asked : Point) where
  -- ---- commits

  pub record EndsSo (w : Walker M S G) (s : Progress) (e : TryEnd) (after : Shards M S G) (v : Walker M S G) (now : Point) (t : Progress) : Type 0 where
    pub holds : HoldsOn sh w after v t
    pub told : (tx : TxId) (birth : Birth) (nth : ℕ) (touched : ℕ → Bool) → standing_of s ≡ Active tx birth nth touched → CommitTold tx birth nth touched e (seen_in sh w asked s) (seen_in after v now t)
    pub grounds : OnStop (Grounds v) e

  abbrev pub CommitDone : Walker M S G → Progress → Result Settled CommitError → Walker M S G → Progress → Type 0
  CommitDone w s r v t = (e : Result Settled CommitFailure) × (r ≡ commit_told e) × EndsSo w s (commit_end e) sh v (asked_after asked r) t

  commit_holds : (w v : Walker M S G) (s t : Progress) (p q : SessionState) (stamp : ℕ) (r : Result Settled CommitFailure) → Holds sh w s → IsSession sh v t → IsSameWalker w v → Commits (length sh.locks.items) w p stamp r v q → HoldsOn sh w sh v t
  commit_holds w v s t p q stamp r h session same (inl c) = held_so sh w v s t h session (ap (λ z. z.number) c.2) (ap (λ z. z.passes.items) c.2)
  commit_holds w v s t p q stamp r h session same (inr c) = held_after sh w v s t ((c.2).asking ++ (c.2).rest) h session same (c.2).took

  commit_grounds : (w v : Walker M S G) (p q : SessionState) (stamp : ℕ) (r : Result Settled CommitFailure) → Commits (length sh.locks.items) w p stamp r v q → OnStop (Grounds v) (commit_end r)
  commit_grounds w v p q stamp r (inl c) = subst (λ x. OnStop (Grounds v) (commit_end x)) (sym c.1) tt
  commit_grounds w v p q stamp r (inr c) =
      let m = c.2 in end_grounds w v (m.asking ++ m.rest) m.took (commit_end r) (commit_found (length sh.locks.items) c.0 p q (record { stamp = stamp; shard = c.0 }) (Request p.tx p.touched) m.answer r m.asking m.rest m.asked m.told)

  commit_made : (w v : Walker M S G) (p : SessionState) (t : Progress) (r : Result Settled CommitError) → Holds sh w (progress.Active p) → IsSession sh v t → CommitMade sh w p r v t → CommitDone w (progress.Active p) r v t
  commit_made w v p t r h session m =
      let active = (h.session).stands in
      let place = place_after_commit (length sh.locks.items) w v p m.place m.stamp m.answer active.touching m.told in (
        m.answer,
        m.is,
        record {
          holds = commit_holds w v (progress.Active p) t p m.place m.stamp m.answer h session m.walker m.told;
          told = λ tx birth nth touched st. (
              let of = read_active p p.birth tx birth nth touched st in
              of_this p p.birth tx birth nth touched of (λ x k f. CommitTold x birth k f (commit_end m.answer) (seen_in sh w asked (progress.Active p)) (seen_in sh v (asked_after asked r) t))
              (subst (λ x. CommitTold p.tx birth p.nth (touched_in p.touched) (commit_end m.answer) (seen_as sh w asked x) (seen_in sh v (asked_after asked r) t)) (sym (ap (active_as p) of.birth_is))
              (subst (λ x. CommitTold p.tx birth p.nth (touched_in p.touched) (commit_end m.answer) (seen_as sh w asked (is_active p birth)) (seen_as sh v (asked_after asked r) x)) (sym (ap standing_of m.then ∙ place.stands m.stamp birth (place.birth ∙ of.birth_is)))
              (subst (λ x. CommitTold p.tx birth p.nth (touched_in p.touched) (commit_end m.answer) (seen_as sh w asked (is_active p birth)) (seen_as sh v x (commit_leaves m.place birth m.answer))) (sym (ap (asked_after asked) m.is ∙ asked_as asked m.answer))
              (commits_tell M S G sh w v asked p m.place birth m.stamp m.answer active of.birth_is m.walker m.told m.stands))))
              );
          grounds = commit_grounds w v p m.place m.stamp m.answer m.told;
        },
      )

  -- a refusal leaves the point
  worn_grown : (w v : Walker M S G) (p : SessionState) (t : Progress) (r : Result Settled CommitError) → r ≡ commit_told (Err (unmade.Worn (2 ^ 48))) → v ≡ w → t ≡ progress.Worn p
      → Grows [] (seen_in sh w asked (progress.Worn p)) (seen_in sh v (asked_after asked r) t)
  worn_grown w v p t r refused is same =
      subst (λ x. Grows [] (seen_in sh w asked (progress.Worn p)) (seen_in sh v (asked_after asked x) t)) (sym refused) (stays_grown sh w v asked (progress.Worn p) t is same)

  -- no going back was left undone
  abbrev pub IsWhole : Progress → Savepoints → Type 0
  IsWhole s saves = (g : Going) × (going_of s saves ≡ Some g)

  pub commit_done : (w v : Walker M S G) (s t : Progress) (saves : Savepoints) (r : Result Settled CommitError) → Holds sh w s → IsUnderWay sh asked s → IsWhole s saves → CommitCalled sh w s r v t → IsSession sh v t → CommitDone w s r v t
  commit_done w v progress.Idle t saves r h way whole c session = idle_active None way.0 way.1 way.2 way.3 way.4
  commit_done w v (progress.Active p) t saves r h way whole c session = commit_made w v p t r h session c
  commit_done w v (progress.Worn p) t saves r h way whole c session = (
    Err (unmade.Worn (2 ^ 48)),
    c.0,
    record {
      holds = held_so sh w v (progress.Worn p) t h session (ap (λ z. z.number) c.1) (ap (λ z. z.passes.items) c.1);
      told = λ tx birth nth touched st. inl (worn_grown w v p t r c.0 c.1 c.2, (nth, ap standing_of c.2 ∙ st));
      grounds = (refl, worn_still w v c.1 ((h.session).stands).1);
    },
  )
  commit_done w v (progress.Undone p n upto) t saves r h way whole c session = absurd (none_some whole.0 whole.1)
  commit_done w v (progress.Asked p home stamp) t saves r h way whole c session = asked_active way.0 way.1 way.2 way.3 way.4
  commit_done w v (progress.Ended p) t saves r h way whole c session = idle_active p.birth way.0 way.1 way.2 way.3 way.4

  -- ---- aborts

  pub record Aborts (w : Walker M S G) (s : Progress) (e : Result Unit StopCause) (after : Shards M S G) (v : Walker M S G) (t : Progress) : Type 0 where
    pub holds : HoldsOn sh w after v t
    pub told : (tx : TxId) (birth : Birth) (nth : ℕ) (touched : ℕ → Bool) → standing_of s ≡ Active tx birth nth touched → AbortTold (HasMissed v) tx birth touched e (seen_in sh w asked s) (seen_in after v asked t)
    pub grounds : IfErr e (Grounds v)
    pub keeps : (cause : StopCause) → Grounds w cause → Grounds v cause

  abbrev pub AbortDone : Walker M S G → Progress → Result Unit AbortError → Walker M S G → Progress → Type 0
  AbortDone w s r v t = (e : Result Unit WornClock) × (r ≡ abort_told e) × Aborts w s (abort_end e) sh v t

  -- the last one ended, or is active still, but worn
  abort_leaves_so : (q : SessionState) (birth : Birth) (r : Result Unit WornClock) → q.birth ≡ Some birth → standing_of (progress_aborted q r) ≡ abort_leaves birth r (active_as q q.birth)
  abort_leaves_so q birth (Ok a) is = ap (λ b. Idle b) is
  abort_leaves_so q birth (Err worn) is = refl

  left_birth : (p q : SessionState) → IsLeft p q → q.birth ≡ p.birth
  left_birth p q (inl is) = ap (λ z. z.birth) is
  left_birth p q (inr is) = ap (λ z. z.birth) is

  abort_grounds : (w v : Walker M S G) (p : SessionState) (r : Result Unit WornClock) → Dropping w.number w.clock w.passes.items p.tx p.touched None 0 (length sh.locks.items) r v.clock v.passes.items → IfErr (abort_end r) (Grounds v)
  abort_grounds w v p (Ok a) d = tt
  abort_grounds w v p (Err worn) d = worn_is_last worn.at w.number w.clock v.clock w.passes.items v.passes.items d.turns d.took d.told

  -- of the place p, which the session's standing is
  abort_made : (w v : Walker M S G) (s : Progress) (p : SessionState) (t : Progress) (r : Result Unit AbortError) → standing_of s ≡ active_as p p.birth → IsUnasked sh w p → Holds sh w s → IsSession sh v t → AbortMade sh w p r v t → AbortDone w s r v t
  abort_made w v s p t r stands unasked h session m =
      let d = m.drops in (
        m.answer,
        m.is,
        record {
          holds = held_after sh w v s t d.turns h session m.walker d.took;
          told = λ tx birth nth touched st. (
              let of = read_active p p.birth tx birth nth touched (sym stands ∙ st) in
              of_this p p.birth tx birth nth touched of (λ x k f. AbortTold (HasMissed v) x birth f (abort_end m.answer) (seen_in sh w asked s) (seen_in sh v asked t))
              (subst (λ x. AbortTold (HasMissed v) p.tx birth (touched_in p.touched) (abort_end m.answer) (seen_as sh w asked x) (seen_in sh v asked t)) (sym (stands ∙ ap (active_as p) of.birth_is))
              (subst (λ x. AbortTold (HasMissed v) p.tx birth (touched_in p.touched) (abort_end m.answer) (seen_as sh w asked (is_active p birth)) (seen_as sh v asked x)) (sym (ap standing_of m.then ∙ abort_leaves_so m.place birth m.answer (left_birth p m.place m.left ∙ of.birth_is)))
              (aborts_tell M S G Unit sh w v asked p birth m.answer (active_as m.place (m.place).birth) unasked of.birth_is m.walker d)))
              );
          grounds = abort_grounds w v p m.answer d;
          keeps = grounds_stay w v d.turns d.took;
        },
      )

  pub abort_done : (w v : Walker M S G) (s t : Progress) (r : Result Unit AbortError) → Holds sh w s → IsUnderWay sh asked s → AbortCalled sh w s r v t → IsSession sh v t → AbortDone w s r v t
  abort_done w v progress.Idle t r h way c session = idle_active None way.0 way.1 way.2 way.3 way.4
  abort_done w v (progress.Active p) t r h way c session = abort_made w v (progress.Active p) p t r refl (inl (h.session).stands) h session c
  abort_done w v (progress.Worn p) t r h way c session = abort_made w v (progress.Worn p) p t r refl ((h.session).stands).0 h session c
  abort_done w v (progress.Undone p n upto) t r h way c session = abort_made w v (progress.Undone p n upto) p t r refl (inl ((h.session).stands).0) h session c
  abort_done w v (progress.Asked p home stamp) t r h way c session = asked_active way.0 way.1 way.2 way.3 way.4
  abort_done w v (progress.Ended p) t r h way c session = idle_active p.birth way.0 way.1 way.2 way.3 way.4

  -- ---- the calls, as the session makes them

  pub commit_answers : (after : Shards M S G) (w v : Walker M S G) (s t : Progress) (saves : Savepoints) (r : Result Settled CommitError) → after ≡ sh → Holds sh w s → IsUnderWay sh asked s → IsWhole s saves → CommitCalled sh w s r v t → IsSession after v t
      → (e : Result Settled CommitFailure) × (r ≡ commit_told e)
  commit_answers after w v s t saves r same h way whole c session = let k = commit_done w v s t saves r h way whole c (subst (λ x. IsSession x v t) same session) in (k.0, k.1)

  pub commit_call : (after : Shards M S G) (w v : Walker M S G) (s t : Progress) (saves : Savepoints) (r : Result Settled CommitError) (result : TryEnd) → after ≡ sh → Holds sh w s → IsUnderWay sh asked s → IsWhole s saves → CommitCalled sh w s r v t → IsSession after v t
      → ((e : Result Settled CommitFailure) → r ≡ commit_told e → result ≡ commit_end e) → EndsSo w s result after v (asked_after asked r) t
  commit_call after w v s t saves r result same h way whole c session told =
      let k = commit_done w v s t saves r h way whole c (subst (λ x. IsSession x v t) same session) in
      subst (λ x. EndsSo w s x after v (asked_after asked r) t) (sym (told k.0 k.1)) (subst (λ x. EndsSo w s (commit_end k.0) x v (asked_after asked r) t) (sym same) k.2)

  pub abort_answers : (after : Shards M S G) (w v : Walker M S G) (s t : Progress) (r : Result Unit AbortError) → after ≡ sh → Holds sh w s → IsUnderWay sh asked s → AbortCalled sh w s r v t → IsSession after v t
      → (e : Result Unit WornClock) × (r ≡ abort_told e)
  abort_answers after w v s t r same h way c session = let k = abort_done w v s t r h way c (subst (λ x. IsSession x v t) same session) in (k.0, k.1)

  pub abort_call : (after : Shards M S G) (w v : Walker M S G) (s t : Progress) (r : Result Unit AbortError) (result : Result Unit StopCause) → after ≡ sh → Holds sh w s → IsUnderWay sh asked s → AbortCalled sh w s r v t → IsSession after v t
      → ((e : Result Unit WornClock) → r ≡ abort_told e → result ≡ abort_end e) → Aborts w s result after v t
  abort_call after w v s t r result same h way c session told =
      let k = abort_done w v s t r h way c (subst (λ x. IsSession x v t) same session) in
      subst (λ x. Aborts w s x after v t) (sym (told k.0 k.1)) (subst (λ x. Aborts w s (abort_end k.0) x v t) (sym same) k.2)

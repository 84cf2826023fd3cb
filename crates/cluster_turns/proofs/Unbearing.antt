-- A birth of which no transaction has an active part on a shard.
use Rattle.std.proofs.Common.{◌≡◌, ◌≢◌, ◌⊎◌, inl, inr, ◌∙◌, refl, sym, ap, subst, ℕ, ◌^◌, nat_lt, ◌==◌, Bool, true, false, not, List, [], ◌∷◌, get_or, set, map, Option, Some, None, Result, Ok, Err, get_or-set_same, get_or-set_other}
use Rattle.std.specs.List.{AllByRecursion}
use Rattle.std.specs.Prelude.{is_some, unwrap_or}
use Rattle.std.proofs.lemmas.Bool.{both_ways, eq-eqb}
use mathlib.Core.Logic.{dite}
use native.Mathlib.Decide.{ℕ_discrete}
use Rattle.clv_base.specs.declared.names.TxId.{TxId}
use Rattle.clv_base.specs.declared.names.Birth.{Birth}
use Rattle.clv_base.specs.declared.ops.Op.{Op as Operation}
use Rattle.clv_base.specs.declared.ops.Op.TheVariants.{Get}
use Rattle.clv_base.specs.declared.ops.Answer.{Answer}
use Rattle.clv_base.specs.declared.causes.AbortCause.{AbortCause}
use Rattle.clv_base.specs.declared.events.Event.{Event}
use Rattle.clv_base.specs.declared.events.Event.TheVariants.{Op, RollTo, Request, Drop, FlushOut}
use Rattle.clv_base.specs.declared.events.Outcome.{Outcome}
use Rattle.clv_base.specs.declared.events.Outcome.TheVariants.{Answered, Dead, Asked, Down}
use Rattle.clv_base.specs.declared.events.Entry.{Entry}
use Rattle.clv_base.specs.declared.state.Held.{Held}
use Rattle.clv_base.specs.declared.state.Stage.{Stage}
use Rattle.clv_base.specs.declared.state.Stage.TheVariants.{Active, Closed, Gone}
use Rattle.clv_base.specs.Orders.{tx_get}
use Rattle.clv_base.specs.State.{Shard}
use Rattle.clv_base.specs.Undo.{stage_of}
use Rattle.clv_base.specs.Backs.{standing_numbers, count_after}
use Rattle.clv_base.specs.OneShard.{OpReply, OpWaits, OpCrowded, OpDies, OpAnswers, seen_fits, op_seen}
use Rattle.clv_base.specs.Events.{QuietBeforeWorn, Does, CallAnswer, Quiet, stamped, step, happen, happen_up, op_event, roll_by_stage, roll_event, epoch_in, request_by_stage, request_event, drop_event, next_stamp}
use Rattle.clv_base.specs.Journals.{has_equal_active_birth}
use Rattle.turn_lock.specs.declared.pass.Pass.{Pass}
use Rattle.turn_lock.specs.Passes.{seen, pass_origin}
use Rattle.journal_laws.specs.Births.{LeavesBirth}
use Rattle.journal_laws.specs.Endings.{ActiveAreFound, EndsHere}
use Rattle.journal_laws.proofs.Laws.{ends_free, inactive_is_free, runs_find_active, notes_are_runs}
use Rattle.machine_calls.specs.declared.machine.StepError.{StepError}
use Rattle.machine_calls.specs.declared.machine.StepError.TheVariants.{Memory, Worn}
use Rattle.machine_calls.specs.Steps.{Tells, NoEntry, listed, is_undropped, may_want_memory}
use Rattle.machine_laws.specs.declared.notes.Note.{Note}
use Rattle.machine_laws.specs.declared.notes.Origin.{Origin}
use Rattle.machine_laws.specs.Notes.{plain, told}
use Rattle.machine_laws.specs.Homes.{start, state_of, entries_in, IsLegal}
use Rattle.machine_laws.proofs.Laws.{from_does, still_free, legal_shard, nothing_happens}
use Rattle.cluster_turns.specs.Turns.{Turned, EventTold}
use Rattle.cluster_turns.specs.Walkers.{Walked}
use Rattle.cluster_turns.specs.Flights.{LandTold}
use Rattle.cluster_turns.specs.CallTurns.{Turn, Took, no_turn, event_turn, flush_turns, horizon_look}
use Rattle.cluster_turns.specs.Answers.{is_quiet, is_kept, HasItsEntry}
use Rattle.cluster_turns.proofs.Answering.{answers_have_entries}
use Rattle.cluster_turns.specs.Births.{IsFreeFor, SeesFree, AllSeeFree}
use Rattle.cluster_turns.specs.Unborn.{SeesUnborn, UnbornAt, is_epoch_of, IsUnbornUnless, SeesUnless, UnbornUnless, HasShard, LeavesUnborn, AllLeaveUnborn, EndsPart, UnbornStays, UnlessStays, AnsweredIsInEpoch, DiesAtRequest, DiesGoingBack, EndsUnbear, NewIsUnborn, UnbornIsFree, UnbornUnlessNone, UnbornUnlessAny}
use Rattle.cluster_turns.proofs.Dropping.{dropped_inactive}
use Rattle.cluster_turns.proofs.Epochs.{epoch_stays, others_unless, added_unless}
use Rattle.cluster_turns.proofs.Freely.{event_frees, turn_frees, event_leaves, landing_leaves, free_stays, new_is_free}
use Rattle.law_base.proofs.Lists.{some_inside as past}
use Rattle.law_base.proofs.Options.{some_inj as some_same}
use Rattle.law_base.proofs.Bools.{not_true}

-- ---- the pass of one shard

module _ {T : Type 0} where
  abbrev pub PassAt : (Pass T Note Origin → Type 0) → ℕ → List (Option (Pass T Note Origin)) → Type 0
  PassAt P n passes = (p : Pass T Note Origin) → ((d : Option (Pass T Note Origin)) → get_or passes n d ≡ Some p) → P p

  -- a turn on shard k, whose pass p becomes q
  pub at_changes : (P : Pass T Note Origin → Type 0) (n k : ℕ) (ps qs : List (Option (Pass T Note Origin))) (p q : Pass T Note Origin) → ((d : Option (Pass T Note Origin)) → get_or ps k d ≡ Some p) → qs ≡ set ps k (Some q) → (k ≡ n → P p → P q)
      → PassAt P n ps → PassAt P n qs
  at_changes P n k ps qs p q had is this each x at = dite (ℕ_discrete n k)
      (λ same. let is_q : q ≡ x = some_same q x (sym (get_or-set_same ps k (Some q) None (past ps k p had)) ∙ sym (ap (λ l. get_or l k None) is) ∙ ap (λ j. get_or qs j None) (sym same) ∙ at None) in
      subst P is_q (this (sym same) (each p (λ d. ap (λ j. get_or ps j d) same ∙ had d))))
      (λ other. each x (λ d. sym (get_or-set_other ps k n (Some q) d other) ∙ sym (ap (λ l. get_or l n d) is) ∙ at d))

-- ---- an own entry that leaves the birth alone

entries_leave : (birth : Birth) (clock w c : ℕ) (t : Turn) (s u : Shard) (added : List Note) (h : EventTold clock w t.event t.answer c s u added) → t.made ≡ h.made → LeavesUnborn birth t → (tx : TxId) → AllByRecursion (λ e. LeavesBirth tx birth e.event) (entries_in added)
entries_leave birth clock w c t s u added h made k tx = subst (λ ns. AllByRecursion (λ e. LeavesBirth tx birth e.event) (entries_in ns)) (sym h.added_is) (at h.made made k h.tells)
  where
    at : (m : Option Entry) → t.made ≡ m → LeavesUnborn birth t → Tells (step s clock w t.event) s clock w t.event t.answer u m → AllByRecursion (λ e. LeavesBirth tx birth e.event) (entries_in (map plain (listed m)))
    at None e k tells = tt
    at (Some x) e (inl none) tells = let wrong = sym e ∙ none in absurd cc
    at (Some x) e (inr leaves) (o, is, m) = (subst (LeavesBirth tx birth) (sym (ap (λ y. y.event) m.entry_is)) (leaves tx), tt)

landing_leave : (birth : Birth) (clock w c upto : ℕ) (pushed : Bool) (s t : Shard) (added : List Note) → LandTold clock w pushed upto c s t added → (tx : TxId) → AllByRecursion (λ e. LeavesBirth tx birth e.event) (entries_in added)
landing_leave birth clock w c upto pushed s t added h tx =
    subst (λ ns. AllByRecursion (λ e. LeavesBirth tx birth e.event) (entries_in ns)) (sym h.added_is) (subst (LeavesBirth tx birth) (sym (ap (λ y. y.event) h.made_is.entry_is)) tt, tt)

module _ {T : Type 0} where
  turn_unless : (Told : Shard → Shard → List Note → Type 0) (w : ℕ) (part : Option ℕ) (birth : Birth) (p q : Pass T Note Origin) (t : Turned Told w p q) → birth.session ≡ w → (IsUnbornUnless part birth t.s → IsUnbornUnless part birth t.t) → SeesUnless part birth p
      → SeesUnless part birth q
  turn_unless Told w part birth p q t own step h o has =
      let same : t.origin ≡ o = some_same t.origin o (sym (t.origin_is ∙ t.has_origin) ∙ has) in
      let found = others_unless part birth t.origin t.s w (seen p) t.before t.s_is t.found own (h t.origin t.has_origin) in
      subst (λ x. IsUnbornUnless part birth (state_of x (seen q))) same (subst (λ ns. IsUnbornUnless part birth (state_of t.origin ns)) (sym t.seen_is) (subst (IsUnbornUnless part birth) t.t_is.is (step found)))

  event_unless :
      (n w clock c : ℕ) (part : Option ℕ) (birth : Birth) (t : Turn) (ps qs : List (Option (Pass T Note Origin))) (walked : Walked (EventTold clock w t.event t.answer c) t.shard w ps qs) → birth.session ≡ w → t.made ≡ walked.turned.told.made
      → (t.shard ≡ n → LeavesUnborn birth t) → UnbornUnless n part birth ps → UnbornUnless n part birth qs
  event_unless n w clock c part birth t ps qs walked own made k f =
      let u = walked.turned in
      at_changes (SeesUnless part birth) n t.shard ps qs walked.p walked.q walked.had walked.after_is
      (λ here. turn_unless _ w part birth walked.p walked.q u own (added_unless part birth u.origin u.before u.added u.s u.t u.s_is u.t_is (entries_leave birth clock w c t u.s u.t u.added u.told made (k here)))) f

  landing_unless :
      (n m w clock c upto : ℕ) (part : Option ℕ) (birth : Birth) (pushed : Bool) (ps qs : List (Option (Pass T Note Origin))) → Walked (LandTold clock w pushed upto c) m w ps qs → birth.session ≡ w → UnbornUnless n part birth ps
      → UnbornUnless n part birth qs
  landing_unless n m w clock c upto part birth pushed ps qs walked own f =
      let u = walked.turned in
      at_changes (SeesUnless part birth) n m ps qs walked.p walked.q walked.had walked.after_is
      (λ here. turn_unless _ w part birth walked.p walked.q u own (added_unless part birth u.origin u.before u.added u.s u.t u.s_is u.t_is (landing_leave birth clock w c upto pushed u.s u.t u.added u.told))) f

-- the start of a flush
flush_leaves : (birth : Birth) (t : Turn) → t.event ≡ FlushOut → LeavesUnborn birth t
flush_leaves birth t is = inr (λ tx. subst (LeavesBirth tx birth) (sym is) tt)

module _ {T : Type 0} where
  pub unless_stays : UnlessStays T
  unless_stays n w _ _ _ _ _ part birth (no_turn clock ps) own k f = f
  unless_stays n w _ _ _ _ _ part birth (event_turn clock c clock' ps qs rs t ts walked made stays h) own k f =
      unless_stays n w c clock' qs rs ts part birth h own k.1 (event_unless n w clock c part birth t ps qs walked own made k.0 f)
  unless_stays n w _ _ _ _ _ part birth (flush_turns clock c d clock' upto pushed ps ms qs rs t u ts out back is answer made same lands landed entered known h) own k f =
      unless_stays n w d clock' qs rs ts part birth h own k.1.1
      (landing_unless n t.shard w c d upto part birth pushed ms qs back own (event_unless n w clock c part birth t ps ms out own made (λ here. flush_leaves birth t is) f))
  unless_stays n w _ _ _ _ _ part birth (horizon_look clock clock' m horizon ps qs rs ts looked h) own k f =
      unless_stays n w clock clock' qs rs ts part birth h own k
      (at_changes (SeesUnless part birth) n m ps qs looked.p looked.q looked.had looked.after_is
      (λ here g o has. subst (λ ns. IsUnbornUnless part birth (state_of o ns)) (sym looked.same.2) (g o (sym looked.same.0 ∙ has))) f)

  pub unborn_unless_none : UnbornUnlessNone T
  unborn_unless_none n birth ps h p had tx o has = h p had o has refl tx

  pub unborn_unless_any : UnbornUnlessAny T
  unborn_unless_any n part birth ps h p had o has other tx = h p had tx o has

  pub unborn_stays : UnbornStays T
  unborn_stays n w c d ps qs ts birth took own k f = unborn_unless_none n birth qs (unless_stays n w c d ps qs ts None birth took own k (unborn_unless_any n None birth ps f))

-- ---- an end

-- active parts are found, and none of them was dropped
record Known (s : Shard) : Type 0 where
  pub found : ActiveAreFound s
  pub dropped : (tx : TxId) (h : Held) → tx_get tx s.local.parts ≡ Some h → h.is_dropped ≡ true → stage_of s.local tx ≢ Some Active

known_in : (g : Origin) (notes : List Note) (s : Shard) → IsLegal g notes s → Known s
known_in g notes s l =
    let run = notes_are_runs (start g) None (map told notes) l.may in
    subst Known (sym l.is) (record {
      found = runs_find_active g.shard g.run g.found.value.items (entries_in notes) (state_of g notes) run;
      dropped = λ tx h is d. dropped_inactive g.shard g.run g.found.value.items (entries_in notes) (state_of g notes) tx h run is d;
    })

none_active : {x : Option Stage} → x ≡ None → x ≢ Some Active
none_active p q = absurd cc

-- an entry that ends the part
end_entered : (tx : TxId) (birth : Birth) (s t : Shard) (e : Event) (o : Outcome) (u : Bool) → s.is_up ≡ u → happen s e ≡ Does o t → EndsHere tx e o → Known s → IsFreeFor tx birth s → (v : TxId) → IsFreeFor v birth t
end_entered tx birth s t e o false down h k known free v = nothing_happens s e o t down h
end_entered tx birth s t e o true up h k known free v = λ _. ap not (ends_free s t e o tx v birth known.found h k (not_true (has_equal_active_birth tx birth s.local.parts) (free up)))

ends_so : (tx : TxId) (e : Event) (o : Outcome) → EndsPart tx e (Ok o) → EndsHere tx e o
ends_so tx (Op u b nth seen op) (Dead cause) k = k
ends_so tx (Op u b nth seen op) _ k = absurd k
ends_so tx (Request u ts) Asked k = k
ends_so tx (Request u ts) _ k = absurd k
ends_so tx (Drop u) o k = k
ends_so tx _ o k = absurd k

-- a drop without an entry: no part is known, or the shard is down
drop_absent : (s : Shard) (stamp w : ℕ) (room : Bool) (tx : TxId) (st : Option Stage) (o : Outcome) → stamped stamp w (Drop tx) room (drop_event s tx st) ≡ Quiet o → st ≡ None
drop_absent s stamp w room tx None o h = refl
drop_absent s stamp w true tx (Some stage) o h = absurd cc
drop_absent s stamp w false tx (Some stage) o h = absurd cc

-- where it has no active part there, whatever the drop was answered
inactive_frees : (tx : TxId) (birth : Birth) (s : Shard) → Known s → (s.is_up ≡ true → stage_of s.local tx ≢ Some Active) → IsFreeFor tx birth s → (v : TxId) → IsFreeFor v birth s
inactive_frees tx birth s known inactive free v = λ up. ap not (inactive_is_free s tx v birth known.found (inactive up) (not_true (has_equal_active_birth tx birth s.local.parts) (free up)))

-- the answer to a drop on a shard that is up
abbrev drop_answer : Shard → ℕ → ℕ → TxId → Option Stage → CallAnswer
drop_answer s clock w tx st = stamped (next_stamp s clock (Drop tx)) w (Drop tx) (nat_lt (next_stamp s clock (Drop tx)) (2 ^ 48)) (drop_event s tx st)

drop_up : (s : Shard) (clock w : ℕ) (tx : TxId) → s.is_up ≡ true → step s clock w (Drop tx) ≡ drop_answer s clock w tx (stage_of s.local tx)
drop_up s clock w tx up =
    ap (λ b. stamped (next_stamp s clock (Drop tx)) w (Drop tx) (nat_lt (next_stamp s clock (Drop tx)) (2 ^ 48)) (elim b [ true ↦ drop_event s tx (stage_of s.local tx) | false ↦ QuietBeforeWorn Down ])) up

quiet_drop : (tx : TxId) (s : Shard) (clock w : ℕ) (o : Outcome) → step s clock w (Drop tx) ≡ Quiet o → s.is_up ≡ true → stage_of s.local tx ≢ Some Active
quiet_drop tx s clock w o h up = none_active (drop_absent s (next_stamp s clock (Drop tx)) w (nat_lt (next_stamp s clock (Drop tx)) (2 ^ 48)) tx (stage_of s.local tx) o (sym (drop_up s clock w tx up) ∙ h))

-- a drop that wants memory is not the first
wanting : (s : Shard) (tx : TxId) (clock w : ℕ) (st : Option Stage) (room : Bool) (h : Option Held) → tx_get tx s.local.parts ≡ h → (elim h [ Some x ↦ Some x.stage | None ↦ None ]) ≡ st
    → may_want_memory s (Drop tx) (stamped (next_stamp s clock (Drop tx)) w (Drop tx) room (drop_event s tx st)) ≡ true → (x : Held) × (tx_get tx s.local.parts ≡ Some x) × (x.is_dropped ≡ true)
wanting s tx clock w None room h is e k = absurd (both_ways false refl k)
wanting s tx clock w (Some stage) false h is e k = absurd (both_ways false refl k)
wanting s tx clock w (Some stage) true None is e k = absurd cc
wanting s tx clock w (Some stage) true (Some x) is e k = (x, is, at x.is_dropped (sym (ap (λ o. not (is_undropped o)) is) ∙ k))
  where
    at : (b : Bool) → not (not b) ≡ true → b ≡ true
    at true h = refl
    at false h = absurd (both_ways false refl h)

wanting_drop : (tx : TxId) (s : Shard) (clock w : ℕ) → Known s → may_want_memory s (Drop tx) (step s clock w (Drop tx)) ≡ true → s.is_up ≡ true → stage_of s.local tx ≢ Some Active
wanting_drop tx s clock w known h up =
    let d = wanting s tx clock w (stage_of s.local tx) (nat_lt (next_stamp s clock (Drop tx)) (2 ^ 48)) (tx_get tx s.local.parts) refl refl (sym (ap (may_want_memory s (Drop tx)) (drop_up s clock w tx up)) ∙ h) in
    known.dropped tx d.0 d.1 d.2

no_entry : (b : Bool) {X : Type 0} → false ≡ not b → b ≡ false → X
no_entry b h k = absurd (both_ways (not b) (sym h) (ap not k))

quiet_end : (tx : TxId) (s : Shard) (clock w : ℕ) (e : Event) (r : Result Outcome StepError) → NoEntry (step s clock w e) s e r → false ≡ is_kept r → EndsPart tx e r → Known s → s.is_up ≡ true → stage_of s.local tx ≢ Some Active
quiet_end tx s clock w (Op u b nth seen op) (Ok (Dead cause)) h kept k known = no_entry (is_quiet (Dead cause)) kept refl
quiet_end tx s clock w (Op u b nth seen op) _ h kept k known = absurd k
quiet_end tx s clock w (Request u ts) (Ok Asked) h kept k known = no_entry (is_quiet Asked) kept refl
quiet_end tx s clock w (Request u ts) _ h kept k known = absurd k
quiet_end tx s clock w (Drop u) (Ok o) h kept k known = quiet_drop tx s clock w o (ap (λ x. step s clock w (Drop x)) (sym k) ∙ h)
quiet_end tx s clock w (Drop u) (Err Memory) h kept k known = wanting_drop tx s clock w known (ap (λ x. may_want_memory s (Drop x) (step s clock w (Drop x))) (sym k) ∙ h)
quiet_end tx s clock w (Drop u) (Err (Worn at)) h kept k known = absurd k
quiet_end tx s clock w _ r h kept k known = absurd k

end_frees : (tx : TxId) (birth : Birth) (clock w c : ℕ) (t : Turn) (s u : Shard) (added : List Note) (h : EventTold clock w t.event t.answer c s u added) → t.made ≡ h.made → HasItsEntry t → EndsPart tx t.event t.answer → Known s → IsFreeFor tx birth s
    → (v : TxId) → IsFreeFor v birth u
end_frees tx birth clock w c t s u added h made entered k known free v = at h.made made h.tells
  where
    at : (m : Option Entry) → t.made ≡ m → Tells (step s clock w t.event) s clock w t.event t.answer u m → IsFreeFor v birth u
    at None e (answer, same) = subst (IsFreeFor v birth) (sym same) (inactive_frees tx birth s known (quiet_end tx s clock w t.event t.answer answer (ap is_some (sym e) ∙ entered) k known) free v)
    at (Some x) e (o, is, m) =
        let d = from_does (next_stamp s clock t.event) w t.event (nat_lt (next_stamp s clock t.event) (2 ^ 48)) (happen s t.event) o u m.enters in
        subst (IsFreeFor v birth) (sym d.is) (end_entered tx birth s d.after t.event o s.is_up refl d.does (ends_so tx t.event o (subst (EndsPart tx t.event) is k)) known free v)

module _ {T : Type 0} where
  event_ends :
      (n w clock c : ℕ) (tx : TxId) (birth : Birth) (t : Turn) (ps qs : List (Option (Pass T Note Origin))) (walked : Walked (EventTold clock w t.event t.answer c) t.shard w ps qs) → birth.session ≡ w → t.made ≡ walked.turned.told.made → HasItsEntry t
      → t.shard ≡ n → EndsPart tx t.event t.answer → AllSeeFree tx birth ps → UnbornAt n birth qs
  event_ends n w clock c tx birth t ps qs walked own made entered here k f x at =
      let u = walked.turned in
      let is_q : walked.q ≡ x = some_same walked.q x (sym (get_or-set_same ps t.shard (Some walked.q) None (past ps t.shard walked.p walked.had)) ∙ sym (ap (λ l. get_or l t.shard None) walked.after_is) ∙ ap (λ j. get_or qs j None) here ∙ at None) in
      λ v. subst (SeesFree v birth) is_q
      (turn_frees _ w tx v birth walked.p walked.q u own (λ free. end_frees tx birth clock w c t u.s u.t u.added u.told made entered k (known_in u.origin u.before u.s u.s_is) free v) (f t.shard walked.p walked.had))

  pub ends_unbear : EndsUnbear T
  ends_unbear n w _ _ _ _ _ tx birth (no_turn clock ps) own k f e = absurd e
  ends_unbear n w _ _ _ _ _ tx birth (event_turn clock c clock' ps qs rs t ts walked made stays h) own k f (inl (here, ends, rest)) =
      let has = answers_have_entries w clock c ps qs (t ∷ []) (event_turn clock c c ps qs qs t [] walked made stays (no_turn c qs)) in
      unborn_stays n w c clock' qs rs ts birth h own rest (event_ends n w clock c tx birth t ps qs walked own made has.0 here ends f)
  ends_unbear n w _ _ _ _ _ tx birth (event_turn clock c clock' ps qs rs t ts walked made stays h) own k f (inr e) =
      ends_unbear n w c clock' qs rs ts tx birth h own k.1 (event_leaves w clock c tx birth t ps qs walked own k.0 f) e
  ends_unbear n w _ _ _ _ _ tx birth (flush_turns clock c d clock' upto pushed ps ms qs rs t u ts out back is answer made same lands landed entered known h) own k f (inl (here, ends, rest)) =
      absurd (subst (λ e. EndsPart tx e t.answer) is ends)
  ends_unbear n w _ _ _ _ _ tx birth (flush_turns clock c d clock' upto pushed ps ms qs rs t u ts out back is answer made same lands landed entered known h) own k f (inr (inl (here, ends, rest))) =
      absurd (subst (λ e. EndsPart tx e u.answer) lands ends)
  ends_unbear n w _ _ _ _ _ tx birth (flush_turns clock c d clock' upto pushed ps ms qs rs t u ts out back is answer made same lands landed entered known h) own k f (inr (inr e)) =
      ends_unbear n w d clock' qs rs ts tx birth h own k.1.1 (landing_leaves w c d upto t.shard tx birth pushed ms qs back own (event_leaves w clock c tx birth t ps ms out own k.0 f)) e
  ends_unbear n w _ _ _ _ _ tx birth (horizon_look clock clock' m horizon ps qs rs ts looked h) own k f e =
      ends_unbear n w clock clock' qs rs ts tx birth h own k (free_stays w clock clock ps qs [] tx birth (horizon_look clock clock m horizon ps qs qs [] looked (no_turn clock qs)) own tt f) e

  pub new_is_unborn : NewIsUnborn T
  new_is_unborn w clock ps birth informed own l n p had tx = new_is_free w clock ps tx birth informed own l n p had

  pub unborn_is_free : UnbornIsFree T
  unborn_is_free ps tx birth all n p had = all n p had tx

-- ---- an operation that was answered

pub answered_epoch : (s : Shard) (r : OpReply) (answer : Answer) (epoch : ℕ) (t : Shard) → op_event s r ≡ Does (Answered answer epoch) t → s.local.epoch ≡ epoch
answered_epoch s (OpWaits younger) answer epoch t h = absurd cc
answered_epoch s (OpCrowded count) answer epoch t h = absurd cc
answered_epoch s (OpDies cause l) answer epoch t h = absurd cc
answered_epoch s (OpAnswers a l) answer epoch t h = let k : Answered a s.local.epoch ≡ Answered answer epoch = cc in cc

answered_fits : (s : Shard) (tx : TxId) (b : Birth) (seen : Option ℕ) (op : Operation) (fits : Bool) (answer : Answer) (epoch : ℕ) (t : Shard) → op_event s (op_seen s.shard s.local tx b seen op fits) ≡ Does (Answered answer epoch) t → fits ≡ true
answered_fits s tx b seen op true answer epoch t h = refl
answered_fits s tx b seen op false answer epoch t h = absurd cc

fits_epoch : (seen : Option ℕ) (now epoch : ℕ) → seen_fits now seen ≡ true → now ≡ epoch → is_epoch_of (Some (unwrap_or seen epoch)) now ≡ true
fits_epoch None now epoch h is = eq-eqb epoch now (sym is)
fits_epoch (Some e) now epoch h is = h

answered_up : (s : Shard) (tx : TxId) (b : Birth) (nth : ℕ) (seen : Option ℕ) (op : Operation) (answer : Answer) (epoch : ℕ) (t : Shard) (u : Bool) → s.is_up ≡ u → happen s (Op tx b nth seen op) ≡ Does (Answered answer epoch) t
    → is_epoch_of (Some (unwrap_or seen epoch)) s.local.epoch ≡ true
answered_up s tx b nth seen op answer epoch t false down h = nothing_happens s (Op tx b nth seen op) (Answered answer epoch) t down h
answered_up s tx b nth seen op answer epoch t true up h =
    let h2 : op_event s (op_seen s.shard s.local tx b seen op (seen_fits s.local.epoch seen)) ≡ Does (Answered answer epoch) t = sym (ap (λ x. elim x [ true ↦ happen_up s (Op tx b nth seen op) | false ↦ QuietBeforeWorn Down ]) up) ∙ h in
    fits_epoch seen s.local.epoch epoch (answered_fits s tx b seen op (seen_fits s.local.epoch seen) answer epoch t h2) (answered_epoch s (op_seen s.shard s.local tx b seen op (seen_fits s.local.epoch seen)) answer epoch t h2)

pub no_made : {x : Option Entry} {X : Type 0} → is_some x ≡ true → x ≡ None → X
no_made h k = absurd (both_ways false refl (sym (ap is_some k) ∙ h))

in_epoch : (t : Turn) (tx : TxId) (b birth : Birth) (nth : ℕ) (sn : Option ℕ) (op : Operation) (answer : Answer) (epoch clock w c : ℕ) (s u : Shard) (added : List Note) (h : EventTold clock w t.event t.answer c s u added) → t.made ≡ h.made → is_some t.made ≡ true
    → t.event ≡ Op tx b nth sn op → t.answer ≡ Ok (Answered answer epoch) → IsUnbornUnless (Some (unwrap_or sn epoch)) birth u
in_epoch t tx b birth nth sn op answer epoch clock w c s u added h made entered event is = at h.made made h.tells
  where
    same_outcome : (o p : Outcome) → ◌≡◌ {A = Result Outcome StepError} (Ok o) (Ok p) → o ≡ p
    same_outcome o p k = cc

    at : (m : Option Entry) → t.made ≡ m → Tells (step s clock w t.event) s clock w t.event t.answer u m → IsUnbornUnless (Some (unwrap_or sn epoch)) birth u
    at None e k = no_made entered e
    at (Some x) e (o, ok, m) = λ other v.
        let d = from_does (next_stamp s clock t.event) w t.event (nat_lt (next_stamp s clock t.event) (2 ^ 48)) (happen s t.event) o u m.enters in
        let does : happen s (Op tx b nth sn op) ≡ Does (Answered answer epoch) d.after =
        ap (happen s) (sym event) ∙ d.does ∙ ap (λ z. Does z d.after) (same_outcome o (Answered answer epoch) (sym ok ∙ is)) in
        let same : u.local.epoch ≡ s.local.epoch = ap (λ z. z.local.epoch) d.is ∙ epoch_stays s d.after t.event o d.does in
        absurd (both_ways (is_epoch_of (Some (unwrap_or sn epoch)) u.local.epoch) other (ap (is_epoch_of (Some (unwrap_or sn epoch))) same ∙ answered_up s tx b nth sn op answer epoch d.after s.is_up refl does))

-- ---- a request that died

dead_other : (s : Shard) (tx : TxId) (ts : List (ℕ × ℕ)) (part : Option ℕ) (cause : AbortCause) (t : Shard) (fits : Bool) → seen_fits s.local.epoch part ≡ fits → request_event s tx ts fits ≡ Does (Dead cause) t
    → (is_epoch_of part s.local.epoch ≡ false) ⊎ (stage_of s.local tx ≢ Some Active)
dead_other s tx ts None cause t false is h = absurd (both_ways true is refl)
dead_other s tx ts (Some e) cause t false is h = inl is
dead_other s tx ts part cause t true is h = inr (by (stage_of s.local tx) h)
  where
    by : (st : Option Stage) → request_by_stage s tx ts st ≡ Does (Dead cause) t → st ≢ Some Active
    by None k active = absurd cc
    by (Some Active) k active = absurd cc
    by (Some Closed) k active = absurd cc
    by (Some (Gone d)) k active = absurd cc

-- whatever else frees the birth where an event of the transaction died: all but the part of an epoch is unborn on its shard
abbrev FreesDead : ℕ → TxId → Birth → Event → Option ℕ → AbortCause → Type 0
FreesDead n tx birth e part cause =
    (s t : Shard) → s.shard ≡ n → happen s e ≡ Does (Dead cause) t → Known s → IsFreeFor tx birth s → IsUnbornUnless part birth s → (v : TxId) → IsFreeFor v birth s

dead_by : (tx : TxId) (birth : Birth) (s : Shard) (part : Option ℕ) → Known s → IsFreeFor tx birth s → IsUnbornUnless part birth s → (is_epoch_of part s.local.epoch ≡ false) ⊎ (stage_of s.local tx ≢ Some Active) → (v : TxId) → IsFreeFor v birth s
dead_by tx birth s part known free unless (inl other) v = unless other v
dead_by tx birth s part known free unless (inr inactive) v = inactive_frees tx birth s known (λ _. inactive) free v

request_dead : (s : Shard) (tx : TxId) (ts : List (ℕ × ℕ)) (cause : AbortCause) (t : Shard) (u : Bool) → s.is_up ≡ u → happen s (Request tx ts) ≡ Does (Dead cause) t
    → (is_epoch_of (epoch_in s.shard ts) s.local.epoch ≡ false) ⊎ (stage_of s.local tx ≢ Some Active)
request_dead s tx ts cause t false down h = nothing_happens s (Request tx ts) (Dead cause) t down h
request_dead s tx ts cause t true up h =
    dead_other s tx ts (epoch_in s.shard ts) cause t (seen_fits s.local.epoch (epoch_in s.shard ts)) refl
    (sym (ap (λ x. elim x [ true ↦ happen_up s (Request tx ts) | false ↦ QuietBeforeWorn Down ]) up) ∙ h)

request_frees : (n : ℕ) (tx : TxId) (birth : Birth) (ts : List (ℕ × ℕ)) (cause : AbortCause) → FreesDead n tx birth (Request tx ts) (epoch_in n ts) cause
request_frees n tx birth ts cause s t at h known free unless v =
    let mine : IsUnbornUnless (epoch_in s.shard ts) birth s = subst (λ k. IsUnbornUnless (epoch_in k ts) birth s) (sym at) unless in
    dead_by tx birth s (epoch_in s.shard ts) known free mine (request_dead s tx ts cause t s.is_up refl h) v

-- ---- a going back that died

rolled_dead : (s : Shard) (tx : TxId) (epoch upto : ℕ) (cause : AbortCause) (t : Shard) (fits : Bool) → (epoch == s.local.epoch) ≡ fits → roll_event s tx epoch upto fits ≡ Does (Dead cause) t
    → (is_epoch_of (Some epoch) s.local.epoch ≡ false) ⊎ (stage_of s.local tx ≢ Some Active)
rolled_dead s tx epoch upto cause t false is h = inl is
rolled_dead s tx epoch upto cause t true is h = inr (by (stage_of s.local tx) h)
  where
    by : (st : Option Stage) → roll_by_stage s tx (count_after upto (standing_numbers tx s.journal)) st ≡ Does (Dead cause) t → st ≢ Some Active
    by None k active = absurd cc
    by (Some Active) k active = absurd cc
    by (Some Closed) k active = absurd cc
    by (Some (Gone d)) k active = absurd cc

back_dead : (s : Shard) (tx : TxId) (nth epoch upto : ℕ) (cause : AbortCause) (t : Shard) (u : Bool) → s.is_up ≡ u → happen s (RollTo tx nth epoch upto) ≡ Does (Dead cause) t
    → (is_epoch_of (Some epoch) s.local.epoch ≡ false) ⊎ (stage_of s.local tx ≢ Some Active)
back_dead s tx nth epoch upto cause t false down h = nothing_happens s (RollTo tx nth epoch upto) (Dead cause) t down h
back_dead s tx nth epoch upto cause t true up h =
    rolled_dead s tx epoch upto cause t (epoch == s.local.epoch) refl
    (sym (ap (λ x. elim x [ true ↦ happen_up s (RollTo tx nth epoch upto) | false ↦ QuietBeforeWorn Down ]) up) ∙ h)

back_frees : (n : ℕ) (tx : TxId) (birth : Birth) (nth epoch upto : ℕ) (cause : AbortCause) → FreesDead n tx birth (RollTo tx nth epoch upto) (Some epoch) cause
back_frees n tx birth nth epoch upto cause s t at h known free unless v = dead_by tx birth s (Some epoch) known free unless (back_dead s tx nth epoch upto cause t s.is_up refl h) v

-- ---- an event that died

dead_unbears : (n : ℕ) (t : Turn) (tx : TxId) (birth : Birth) (e : Event) (part : Option ℕ) (cause : AbortCause) (clock w c : ℕ) (s u : Shard) (added : List Note) (h : EventTold clock w t.event t.answer c s u added)
    → FreesDead n tx birth e part cause → ((v : TxId) → LeavesBirth v birth e) → s.shard ≡ n → t.made ≡ h.made → is_some t.made ≡ true → t.event ≡ e
    → t.answer ≡ Ok (Dead cause) → Known s → IsFreeFor tx birth s → IsUnbornUnless part birth s → (v : TxId) → IsFreeFor v birth u
dead_unbears n t tx birth e part cause clock w c s u added h frees leaves place made entered event is known free unless v =
    event_frees v birth clock w c t.event t.answer s u added h (subst (LeavesBirth v birth) (sym event) (leaves v)) (at h.made made h.tells)
  where
    same_outcome : (o p : Outcome) → ◌≡◌ {A = Result Outcome StepError} (Ok o) (Ok p) → o ≡ p
    same_outcome o p k = cc

    at : (m : Option Entry) → t.made ≡ m → Tells (step s clock w t.event) s clock w t.event t.answer u m → IsFreeFor v birth s
    at None q k = no_made entered q
    at (Some x) q (o, ok, m) =
        let d = from_does (next_stamp s clock t.event) w t.event (nat_lt (next_stamp s clock t.event) (2 ^ 48)) (happen s t.event) o u m.enters in
        frees s d.after place (ap (happen s) (sym event) ∙ d.does ∙ ap (λ z. Does z d.after) (same_outcome o (Dead cause) (sym ok ∙ is))) known free unless v

-- ---- the one turn of a call

pub head_same : (t u : Turn) (ts us : List Turn) → t ∷ ts ≡ u ∷ us → t ≡ u
head_same t u ts us h = cc

pub tail_same : (t u : Turn) (ts us : List Turn) → t ∷ ts ≡ u ∷ us → ts ≡ us
tail_same t u ts us h = cc

no_more : (n : ℕ) (birth : Birth) (ts : List Turn) → ts ≡ [] → AllLeaveUnborn n birth ts
no_more n birth [] h = tt
no_more n birth (t ∷ ts) h = absurd cc

module _ {T : Type 0} where
  -- what a pass has seen after a turn of its own
  pub at_here : (P : Pass T Note Origin → Type 0) (n k : ℕ) (ps qs : List (Option (Pass T Note Origin))) (p q : Pass T Note Origin) → ((d : Option (Pass T Note Origin)) → get_or ps k d ≡ Some p) → qs ≡ set ps k (Some q) → k ≡ n → P q → PassAt P n qs
  at_here P n k ps qs p q had is same h x at =
      subst P (some_same q x (sym (get_or-set_same ps k (Some q) None (past ps k p had)) ∙ sym (ap (λ l. get_or l k None) is) ∙ ap (λ j. get_or qs j None) same ∙ at None)) h

  pub after_sees : (Told : Shard → Shard → List Note → Type 0) (w : ℕ) (p q : Pass T Note Origin) (t : Turned Told w p q) (P : Shard → Type 0) → P t.t → (o : Origin) → pass_origin q ≡ Some o → P (state_of o (seen q))
  after_sees Told w p q t P h o has =
      subst (λ x. P (state_of x (seen q))) (some_same t.origin o (sym (t.origin_is ∙ t.has_origin) ∙ has)) (subst (λ ns. P (state_of t.origin ns)) (sym t.seen_is) (subst P t.t_is.is h))

  answered_at : (n w c d : ℕ) (ps qs : List (Option (Pass T Note Origin))) (ts : List Turn) (t : Turn) (tx : TxId) (b birth : Birth) (nth : ℕ) (sn : Option ℕ) (op : Operation) (answer : Answer) (epoch : ℕ) → Took w c ps ts d qs → ts ≡ t ∷ [] → birth.session ≡ w → t.shard ≡ n
      → t.event ≡ Op tx b nth sn op → t.answer ≡ Ok (Answered answer epoch) → UnbornUnless n (Some (unwrap_or sn epoch)) birth qs
  answered_at n w _ _ _ _ _ t tx b birth nth sn op answer epoch (no_turn clock ps) is own here event ans = absurd cc
  answered_at n w _ _ _ _ _ t tx b birth nth sn op answer epoch (event_turn clock c clock' ps qs rs u ts walked made stays h) is own here event ans =
      let same = head_same u t ts [] is in
      let ans2 = ap (λ z. z.answer) same ∙ ans in
      let has = answers_have_entries w clock c ps qs (u ∷ []) (event_turn clock c c ps qs qs u [] walked made stays (no_turn c qs)) in
      let x = walked.turned in
      let part = Some (unwrap_or sn epoch) in
      unless_stays n w c clock' qs rs ts part birth h own (no_more n birth ts (tail_same u t ts [] is))
      (at_here (SeesUnless part birth) n u.shard ps qs walked.p walked.q walked.had walked.after_is (ap (λ z. z.shard) same ∙ here)
      (after_sees _ w walked.p walked.q x (IsUnbornUnless part birth)
      (in_epoch u tx b birth nth sn op answer epoch clock w c x.s x.t x.added x.told made (has.0 ∙ ap is_kept ans2) (ap (λ z. z.event) same ∙ event) ans2)))
  answered_at n w _ _ _ _ _ t tx b birth nth sn op answer epoch (flush_turns clock c d clock' upto pushed ps ms qs rs u v ts out back e answer2 made same lands landed entered known h) is own here event ans =
      let wrong : v ∷ ts ≡ [] = tail_same u t (v ∷ ts) [] is in absurd cc
  answered_at n w _ _ _ _ _ t tx b birth nth sn op answer epoch (horizon_look clock clock' m horizon ps qs rs ts looked h) is own here event ans =
      answered_at n w clock clock' qs rs ts t tx b birth nth sn op answer epoch h is own here event ans

  pub answered_is_in_epoch : AnsweredIsInEpoch T
  answered_is_in_epoch n w c d ps qs t tx b birth nth sn op answer epoch took own here event ans = answered_at n w c d ps qs (t ∷ []) t tx b birth nth sn op answer epoch took refl own here event ans

  dead_at : (n w c d : ℕ) (ps qs : List (Option (Pass T Note Origin))) (ts : List Turn) (t : Turn) (tx : TxId) (birth : Birth) (e : Event) (part : Option ℕ) (cause : AbortCause) → FreesDead n tx birth e part cause → ((v : TxId) → LeavesBirth v birth e)
      → Took w c ps ts d qs → ts ≡ t ∷ [] → birth.session ≡ w → t.shard ≡ n → t.event ≡ e → t.answer ≡ Ok (Dead cause) → HasShard n ps → AllSeeFree tx birth ps → UnbornUnless n part birth ps → UnbornAt n birth qs
  dead_at n w _ _ _ _ _ t tx birth e part cause frees leaves (no_turn clock ps) is own here event ans shard free unless = absurd cc
  dead_at n w _ _ _ _ _ t tx birth e part cause frees leaves (event_turn clock c clock' ps qs rs u ts walked made stays h) is own here event ans shard free unless =
      let same = head_same u t ts [] is in
      let ans2 = ap (λ z. z.answer) same ∙ ans in
      let place : u.shard ≡ n = ap (λ z. z.shard) same ∙ here in
      let has = answers_have_entries w clock c ps qs (u ∷ []) (event_turn clock c c ps qs qs u [] walked made stays (no_turn c qs)) in
      let x = walked.turned in
      let found : IsFreeFor tx birth x.s = still_free x.origin x.s w (Op tx birth 0 None (Get 0)) (seen walked.p) x.before x.s_is x.found (eq-eqb birth.session w own) (free u.shard walked.p walked.had x.origin x.has_origin) in
      let had : (d : Option (Pass T Note Origin)) → get_or ps n d ≡ Some walked.p = λ d. ap (λ j. get_or ps j d) (sym place) ∙ walked.had d in
      let shard_is : x.s.shard ≡ n = legal_shard x.origin x.before x.s x.s_is ∙ shard walked.p had x.origin x.has_origin in
      let lost : IsUnbornUnless part birth x.s = others_unless part birth x.origin x.s w (seen walked.p) x.before x.s_is x.found own (unless walked.p had x.origin x.has_origin) in
      unborn_stays n w c clock' qs rs ts birth h own (no_more n birth ts (tail_same u t ts [] is))
      (at_here (SeesUnborn birth) n u.shard ps qs walked.p walked.q walked.had walked.after_is place
      (λ v. after_sees _ w walked.p walked.q x (IsFreeFor v birth)
      (dead_unbears n u tx birth e part cause clock w c x.s x.t x.added x.told frees leaves shard_is made (has.0 ∙ ap is_kept ans2) (ap (λ z. z.event) same ∙ event) ans2 (known_in x.origin x.before x.s x.s_is) found lost v)))
  dead_at n w _ _ _ _ _ t tx birth e part cause frees leaves (flush_turns clock c d clock' upto pushed ps ms qs rs u v ts out back out_is answer2 made same lands landed entered known h) is own here event ans shard free unless =
      let wrong : v ∷ ts ≡ [] = tail_same u t (v ∷ ts) [] is in absurd cc
  dead_at n w _ _ _ _ _ t tx birth e part cause frees leaves (horizon_look clock clock' m horizon ps qs rs ts looked h) is own here event ans shard free unless =
      let look = horizon_look clock clock m horizon ps qs qs [] looked (no_turn clock qs) in
      dead_at n w clock clock' qs rs ts t tx birth e part cause frees leaves h is own here event ans
      (at_changes (λ p. (o : Origin) → pass_origin p ≡ Some o → o.shard ≡ n) n m ps qs looked.p looked.q looked.had looked.after_is (λ at g o has. g o (sym looked.same.0 ∙ has)) shard)
      (free_stays w clock clock ps qs [] tx birth look own tt free)
      (unless_stays n w clock clock ps qs [] part birth look own tt unless)

  pub dies_at_request : DiesAtRequest T
  dies_at_request n w c d ps qs t tx birth touched cause took own here event ans shard free unless =
      dead_at n w c d ps qs (t ∷ []) t tx birth (Request tx touched) (epoch_in n touched) cause (request_frees n tx birth touched cause) (λ v. tt) took refl own here event ans shard free unless

  pub dies_going_back : DiesGoingBack T
  dies_going_back n w c d ps qs t tx birth nth epoch upto cause took own here event ans shard free unless =
      dead_at n w c d ps qs (t ∷ []) t tx birth (RollTo tx nth epoch upto) (Some epoch) cause (back_frees n tx birth nth epoch upto cause) (λ v. tt) took refl own here event ans shard free unless

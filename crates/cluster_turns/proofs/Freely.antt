-- A birth through a walker's turns.
use Rattle.std.proofs.Common.{◌≡◌, ◌∙◌, refl, sym, ap, subst, ℕ, ◌<◌, Bool, true, false, not, List, [], ◌∷◌, ◌++◌, map, Option, Some, None, Result, arith, nat_lt, ◌^◌}
use Rattle.std.specs.List.{AllByRecursion}
use Rattle.std.specs.Ordering.{nat_cmp, ordering_then, is_eq}
use Rattle.std.specs.declared.cmp.Ordering.{Ordering}
use Rattle.std.specs.declared.cmp.Ordering.TheVariants.{Less, Equal, Greater}
use Rattle.std.proofs.lemmas.Bool.{both_ways, eq-eqb, and_right, false_from_ne_true}
use Rattle.clv_base.specs.declared.names.TxId.{TxId}
use Rattle.clv_base.specs.declared.names.Birth.{Birth}
use Rattle.clv_base.specs.declared.ops.Op.TheVariants.{Get}
use Rattle.clv_base.specs.declared.events.Event.{Event}
use Rattle.clv_base.specs.declared.events.Event.TheVariants.{Op, RollTo, Request, Look, Drop, Send, Deliver, Remind, FlushOut, FlushIn, Stop, Restart}
use Rattle.clv_base.specs.declared.events.Outcome.{Outcome}
use Rattle.clv_base.specs.declared.events.Entry.{Entry}
use Rattle.clv_base.proofs.SameNames.{nat_cmp_true}
use Rattle.clv_base.specs.Orders.{tx_same, birth_cmp}
use Rattle.clv_base.specs.State.{Shard}
use Rattle.clv_base.specs.Events.{Does, step, happen, next_stamp}
use Rattle.clv_base.specs.Journals.{has_equal_active_birth}
use Rattle.turn_lock.specs.declared.pass.Pass.{Pass}
use Rattle.turn_lock.specs.Passes.{seen, own}
use Rattle.journal_laws.specs.Walkers.{by_walker}
use Rattle.journal_laws.specs.Births.{LeavesBirth}
use Rattle.journal_laws.proofs.Laws.{free_rows, has_none, free_event, free_births_stay, new_births_are_free, notes_are_runs}
use Rattle.machine_calls.specs.declared.machine.StepError.{StepError}
use Rattle.machine_calls.specs.Steps.{Tells}
use Rattle.machine_laws.specs.declared.notes.Note.{Note}
use Rattle.machine_laws.specs.declared.notes.Origin.{Origin}
use Rattle.machine_laws.specs.Notes.{told}
use Rattle.machine_laws.specs.Homes.{entries_in, start, state_of, holder_of, all_named, IsLegal}
use Rattle.machine_laws.proofs.Laws.{from_does, still_free, since, all_bear, nothing_happens}
use Rattle.journal_laws.specs.Notes.{after_notes}
use Rattle.cluster_turns.specs.Turns.{Turned, EventTold}
use Rattle.cluster_turns.specs.Walkers.{Walked}
use Rattle.cluster_turns.specs.Flights.{LandTold, landed_as}
use Rattle.cluster_turns.specs.CallTurns.{Turn, no_turn, event_turn, flush_turns, horizon_look}
use Rattle.cluster_turns.specs.Births.{IsFreeFor, IsBornBy, SeesFree, AllSeeFree}
use Rattle.cluster_turns.specs.Laws.{FreeStays, NewIsFree}
use Rattle.cluster_turns.proofs.Keeping.{one_changes, changed, by_notes}
use Rattle.law_base.proofs.Options.{some_inj as some_same}
use Rattle.law_base.proofs.Shards.{not_down}
use Rattle.law_base.proofs.Bools.{not_true}

-- ---- the walker's own entry

stays_by_event : (tx : TxId) (birth : Birth) (s : Shard) (e : Event) (o : Outcome) (t : Shard) (u : Bool) → s.is_up ≡ u → happen s e ≡ Does o t → LeavesBirth tx birth e → IsFreeFor tx birth s → IsFreeFor tx birth t
stays_by_event tx birth s e o t false down h k free = nothing_happens s e o t down h
stays_by_event tx birth s e o t true up h k free =
    λ _. ap not (has_none tx birth t.local.parts (free_event tx birth s t e o h k (free_rows tx birth s.local.parts (not_true (has_equal_active_birth tx birth s.local.parts) (free up)))))

pub event_frees : (tx : TxId) (birth : Birth) (clock w c : ℕ) (e : Event) (r : Result Outcome StepError) (s t : Shard) (added : List Note) → EventTold clock w e r c s t added → LeavesBirth tx birth e → IsFreeFor tx birth s → IsFreeFor tx birth t
event_frees tx birth clock w c e r s t added h k free = at h.made h.tells
  where
    at : (made : Option Entry) → Tells (step s clock w e) s clock w e r t made → IsFreeFor tx birth t
    at None (answer, same) = subst (IsFreeFor tx birth) (sym same) free
    at (Some x) (o, is, m) =
        let d = from_does (next_stamp s clock e) w e (nat_lt (next_stamp s clock e) (2 ^ 48)) (happen s e) o t m.enters in
        subst (IsFreeFor tx birth) (sym d.is) (stays_by_event tx birth s e o d.after s.is_up refl d.does k free)

-- ---- the end of a flush

pub landing_frees : (tx : TxId) (birth : Birth) (g : Origin) (before added : List Note) (clock w c upto : ℕ) (pushed : Bool) (s t : Shard) → IsLegal g before s → IsLegal g (before ++ added) t → LandTold clock w pushed upto c s t added → IsFreeFor tx birth s → IsFreeFor tx birth t
landing_frees tx birth g before added clock w c upto pushed s t k l h free = at s.is_up refl
  where
    leaves : AllByRecursion (λ e. LeavesBirth tx birth e.event) (entries_in added)
    leaves = subst (λ ns. AllByRecursion (λ e. LeavesBirth tx birth e.event) (entries_in ns)) (sym h.added_is) (subst (LeavesBirth tx birth) (sym (ap (λ y. y.event) h.made_is.entry_is)) tt, tt)

    at : (u : Bool) → s.is_up ≡ u → IsFreeFor tx birth t
    at false up = not_down s clock w pushed (landed_as pushed upto) t s.is_up refl h.made_is.enters up
    at true up =
        let q = since g before added (before ++ added) t l refl in
        let r = notes_are_runs (state_of g before) (holder_of before) (map told added) q.may in
        λ _. ap not (subst (λ x. has_equal_active_birth tx birth x.local.parts ≡ false) (sym q.is)
        (free_births_stay (state_of g before) (after_notes (state_of g before) (map told added)) (entries_in added) tx birth r leaves
        (subst (λ x. has_equal_active_birth tx birth x.local.parts ≡ false) k.is (not_true (has_equal_active_birth tx birth s.local.parts) (free up)))))

-- ---- a turn

module _ {T : Type 0} where
  -- what a turn makes of a birth that is free for tx: free for v
  pub turn_frees :
      (Told : Shard → Shard → List Note → Type 0) (w : ℕ) (tx v : TxId) (birth : Birth) (p q : Pass T Note Origin) (t : Turned Told w p q) → birth.session ≡ w → (IsFreeFor tx birth t.s → IsFreeFor v birth t.t) → SeesFree tx birth p → SeesFree v birth q
  turn_frees Told w tx v birth p q t own step free o has =
      let same : t.origin ≡ o = some_same t.origin o (sym (t.origin_is ∙ t.has_origin) ∙ has) in
      let found : IsFreeFor tx birth t.s = still_free t.origin t.s w (Op tx birth 0 None (Get 0)) (seen p) t.before t.s_is t.found (eq-eqb birth.session w own) (free t.origin t.has_origin) in
      subst (λ x. IsFreeFor v birth (state_of x (seen q))) same
      (subst (λ ns. IsFreeFor v birth (state_of t.origin ns)) (sym t.seen_is) (subst (IsFreeFor v birth) t.t_is.is (step found)))

  pub event_leaves :
      (w clock c : ℕ) (tx : TxId) (birth : Birth) (t : Turn) (ps qs : List (Option (Pass T Note Origin))) → Walked (EventTold clock w t.event t.answer c) t.shard w ps qs → birth.session ≡ w → LeavesBirth tx birth t.event
      → AllSeeFree tx birth ps → AllSeeFree tx birth qs
  event_leaves w clock c tx birth t ps qs walked own k f =
      let u = walked.turned in
      changed (SeesFree tx birth) t.shard ps qs walked.q walked.after_is
      (one_changes (SeesFree tx birth) (SeesFree tx birth) t.shard ps walked.p walked.q walked.had (λ x g. g)
      (turn_frees _ w tx tx birth walked.p walked.q u own (event_frees tx birth clock w c t.event t.answer u.s u.t u.added u.told k)) f)

  pub landing_leaves :
      (w clock c upto n : ℕ) (tx : TxId) (birth : Birth) (pushed : Bool) (ps qs : List (Option (Pass T Note Origin))) → Walked (LandTold clock w pushed upto c) n w ps qs → birth.session ≡ w → AllSeeFree tx birth ps → AllSeeFree tx birth qs
  landing_leaves w clock c upto n tx birth pushed ps qs walked own f =
      let u = walked.turned in
      changed (SeesFree tx birth) n ps qs walked.q walked.after_is
      (one_changes (SeesFree tx birth) (SeesFree tx birth) n ps walked.p walked.q walked.had (λ x g. g)
      (turn_frees _ w tx tx birth walked.p walked.q u own (landing_frees tx birth u.origin u.before u.added clock w c upto pushed u.s u.t u.s_is u.t_is u.told)) f)

  pub free_stays : FreeStays T
  free_stays w _ _ _ _ _ tx birth (no_turn clock ps) own k f = f
  free_stays w _ _ _ _ _ tx birth (event_turn clock c clock' ps qs rs t ts walked made stays h) own k f =
      free_stays w c clock' qs rs ts tx birth h own k.1 (event_leaves w clock c tx birth t ps qs walked own k.0 f)
  free_stays w _ _ _ _ _ tx birth (flush_turns clock c d clock' upto pushed ps ms qs rs t u ts out back is answer made same lands landed entered known h) own k f =
      free_stays w d clock' qs rs ts tx birth h own k.1.1 (landing_leaves w c d upto t.shard tx birth pushed ms qs back own (event_leaves w clock c tx birth t ps ms out own k.0 f))
  free_stays w _ _ _ _ _ tx birth (horizon_look clock clock' n horizon ps qs rs ts looked h) own k f =
      free_stays w clock clock' qs rs ts tx birth h own k
      (changed (SeesFree tx birth) n ps qs looked.q looked.after_is
      (one_changes (SeesFree tx birth) (SeesFree tx birth) n ps looked.p looked.q looked.had (λ x g. g)
      (λ g o has. subst (λ ns. IsFreeFor tx birth (state_of o ns)) (sym looked.same.2) (g o (sym looked.same.0 ∙ has))) f))

-- ---- a new birth

greater : (a b : ℕ) → b < a → (x : Ordering) → is_eq (ordering_then (nat_cmp a b) x) ≡ false
greater a b l x = false_from_ne_true (is_eq (ordering_then (nat_cmp a b) x)) (λ h. let same = first (nat_cmp a b) x h in let e = nat_cmp_true a b same in omega arith)
  where
    first : (y z : Ordering) → is_eq (ordering_then y z) ≡ true → is_eq y ≡ true
    first Less z h = absurd (both_ways false refl h)
    first Equal z h = refl
    first Greater z h = absurd (both_ways false refl h)

old_leaves : (tx : TxId) (birth : Birth) (clock : ℕ) → clock < birth.stamp → (es : List Entry) → AllByRecursion (λ e. IsBornBy clock e.event) es → AllByRecursion (λ e. LeavesBirth tx birth e.event) es
old_leaves tx birth clock l [] h = tt
old_leaves tx birth clock l (e ∷ es) h = (leaves e.event h.0, old_leaves tx birth clock l es h.1)
  where
    leaves : (x : Event) → IsBornBy clock x → LeavesBirth tx birth x
    leaves (Op u b nth seen op) k = and_right (not (tx_same tx u)) (is_eq (birth_cmp birth b)) (greater birth.stamp b.stamp (omega arith) _)
    leaves (RollTo u nth seen upto) k = tt
    leaves (Request u ts) k = tt
    leaves (Look u) k = tt
    leaves (Drop u) k = tt
    leaves Send k = tt
    leaves (Deliver m stamp) k = tt
    leaves Remind k = tt
    leaves FlushOut k = tt
    leaves FlushIn k = tt
    leaves Stop k = tt
    leaves Restart k = tt

module _ {T : Type 0} where
  pub new_is_free : NewIsFree T
  new_is_free w clock ps tx birth informed own l n p had o has up =
      let i = informed n p had in
      let legal = i.legal o has in
      let run = notes_are_runs (start o) None (map told (seen p)) legal.may in
      let named : all_named (entries_in (seen p)) ≡ true = ap all_named (sym legal.entries) ∙ legal.named in
      let mine : by_walker birth.session (entries_in (seen p)) ≡ entries_in (Rattle.turn_lock.specs.Passes.own p) = ap (λ v. by_walker v (entries_in (seen p))) own ∙ by_notes w (seen p) ∙ ap entries_in (sym i.own_seen) in
      ap not (new_births_are_free o.shard o.run o.found.value.items (entries_in (seen p)) (state_of o (seen p)) tx birth run (all_bear (entries_in (seen p)) named)
      (subst (λ es. AllByRecursion (λ e. LeavesBirth tx birth e.event) es) (sym mine) (old_leaves tx birth clock l (entries_in (Rattle.turn_lock.specs.Passes.own p)) i.born)))

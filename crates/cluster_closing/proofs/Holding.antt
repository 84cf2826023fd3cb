-- Who has a disk, through the turns of a walker and of others.
use Rattle.std.proofs.Common.{◌≡◌, ◌≢◌, ◌∙◌, refl, sym, ap, subst, ℕ, ◌==◌, Bool, true, false, cond, List, [], ◌∷◌, ◌++◌, map, Option, Some, None, Result, Ok, Err}
use Rattle.std.proofs.lemmas.Bool.{both_ways, eq-eqb}
use Rattle.std.proofs.lemmas.List.{map-append}
use Rattle.clv_base.specs.declared.events.Event.{Event}
use Rattle.clv_base.specs.declared.events.Outcome.{Outcome}
use Rattle.clv_base.specs.declared.events.Entry.{Entry}
use Rattle.clv_base.specs.State.{Shard}
use Rattle.journal_laws.specs.Notes.{Note as Told, holder, ends_holding}
use Rattle.turn_lock.specs.Journals.{entries_by}
use Rattle.turn_lock.specs.declared.pass.Pass.{Pass}
use Rattle.turn_lock.specs.Passes.{seen, own}
use Rattle.machine_calls.specs.declared.machine.StepError.{StepError}
use Rattle.machine_calls.specs.Steps.{listed}
use Rattle.machine_laws.specs.declared.notes.Note.{Note}
use Rattle.machine_laws.specs.declared.notes.Note.TheVariants.{Made, Fetched}
use Rattle.machine_laws.specs.declared.notes.Origin.{Origin}
use Rattle.machine_laws.specs.Notes.{noter, told, plain}
use Rattle.machine_laws.specs.Homes.{holder_of}
use Rattle.cluster_turns.specs.Turns.{Turned, EventTold, SettledTold}
use Rattle.cluster_turns.specs.Walkers.{Walked, Looked}
use Rattle.cluster_turns.specs.declared.flushing.Flushed.{Flushed}
use Rattle.cluster_turns.specs.declared.flushing.FlushError.{FlushError}
use Rattle.cluster_turns.specs.Flights.{LandTold}
use Rattle.cluster_turns.specs.Told.{FlushTold, one_turn, two_turns}
use Rattle.cluster_turns.specs.declared.carrying.Carry.{Carry}
use Rattle.cluster_turns.specs.declared.carrying.CarryError.{CarryError}
use Rattle.cluster_turns.specs.Carried.{BringTold, is_lost, is_brought, CarryTold, none_sent, one_sent}
use Rattle.cluster_turns.specs.declared.tending.DrainError.{DrainError}
use Rattle.cluster_turns.specs.Rounds.{Rounds, no_turn as no_round, flushes, carries, reminds, looks, Refused, no_flush, no_message, no_reminder, DrainTold}
use Rattle.machine_laws.proofs.Laws.{other_first as first_other}
use Rattle.cluster_closing.proofs.Landing.{walked_each, new_pass, looked_each}
use Rattle.cluster_closing.specs.declared.fetching.FetchError.TheVariants.{Up, Away}
use Rattle.cluster_turns.specs.CallTurns.{Turn, Took, no_turn, event_turn, flush_turns, horizon_look}
use Rattle.cluster_closing.specs.Held.{AreMade, HasNoDisk, HoldsNoneBut, FetchedNone}
use Rattle.cluster_closing.specs.Laws.{NewWalkersHoldNone, TurnsHoldNone, DrainsHoldNone, LooksHoldNone, NewWalkersFetchedNone, TurnsFetchNone, DrainsFetchNone, FetchesHoldOne, RefusedFetchesHoldNone}
use Rattle.machine_laws.proofs.Laws.{holder_append}

-- ---- notes, and who has the disk after them

pub holder_split : (xs ys : List Note) → holder_of (xs ++ ys) ≡ holder (holder_of xs) (map told ys)
holder_split xs ys = ap (holder None) (map-append told xs ys) ∙ holder_append None (map told xs) (map told ys)

cleared : (b : Bool) (held : Option ℕ) (w : ℕ) → held ≢ Some w → cond b None held ≢ Some w
cleared true held w h = λ is. absurd (let k : None ≡ Some w = is in cc)
cleared false held w h = h

another : (v w : ℕ) → (v == w) ≡ false → Some v ≢ Some w
another v w d = λ is. absurd (let k : v ≡ w = (let e : Some v ≡ Some w = is in cc) in both_ways (v == w) d (eq-eqb v w k))

-- others' notes give the disk to others alone
pub others_hold : (held : Option ℕ) (w : ℕ) (ns : List Note) → entries_by noter w ns ≡ [] → held ≢ Some w → holder held (map told ns) ≢ Some w
others_hold held w [] none h = h
others_hold held w (Made e log ∷ ns) none h =
    let f = first_other w (Made e log) ns (e.walker == w) refl none in others_hold (cond (ends_holding e.event) None held) w ns f.1 (cleared (ends_holding e.event) held w h)
others_hold held w (Fetched v ∷ ns) none h = let f = first_other w (Fetched v) ns (v == w) refl none in others_hold (Some v) w ns f.1 (another v w f.0)

made_hold : (held : Option ℕ) (w : ℕ) (ns : List Note) → AreMade ns → held ≢ Some w → holder held (map told ns) ≢ Some w
made_hold held w [] m h = h
made_hold held w (Made e log ∷ ns) m h = made_hold (cond (ends_holding e.event) None held) w ns m (cleared (ends_holding e.event) held w h)
made_hold held w (Fetched v ∷ ns) m h = absurd m

both_made : (xs ys : List Note) → AreMade xs → AreMade ys → AreMade (xs ++ ys)
both_made [] ys a b = b
both_made (Made e log ∷ xs) ys a b = both_made xs ys a b
both_made (Fetched w ∷ xs) ys a b = absurd a

plain_made : (es : List Entry) → AreMade (map plain es)
plain_made [] = tt
plain_made (e ∷ es) = plain_made es

event_made : (clock w c : ℕ) (e : Event) (r : Result Outcome StepError) (s t : Shard) (added : List Note) → EventTold clock w e r c s t added → AreMade added
event_made clock w c e r s t added h = subst AreMade (sym h.added_is) (plain_made (listed h.made))

landing_made : (clock w c upto : ℕ) (pushed : Bool) (s t : Shard) (added : List Note) → LandTold clock w pushed upto c s t added → AreMade added
landing_made clock w c upto pushed s t added h = subst AreMade (sym h.added_is) tt

module _ {T : Type 0} where
  -- ---- one turn

  pub turned_none : {Told : Shard → Shard → List Note → Type 0} {w : ℕ} {p q : Pass T Note Origin} (t : Turned Told w p q) → AreMade t.added → HasNoDisk w p → HasNoDisk w q
  turned_none {Told} {w} {p} {q} t made h =
      let found : holder_of t.before ≢ Some w = subst (λ ns. holder_of ns ≢ Some w) (sym t.found.1)
      (subst (λ (k : Option ℕ). k ≢ Some w) (sym (holder_split (seen p) t.found.0)) (others_hold (holder_of (seen p)) w t.found.0 t.found.2 h)) in
      subst (λ ns. holder_of ns ≢ Some w) (sym t.seen_is) (subst (λ (k : Option ℕ). k ≢ Some w) (sym (holder_split t.before t.added)) (made_hold (holder_of t.before) w t.added made found))

  pub walked_none : {Told : Shard → Shard → List Note → Type 0} {n w : ℕ} {before after : List (Option (Pass T Note Origin))} (but : Option ℕ) (h : Walked Told n w before after) → AreMade h.turned.added → HoldsNoneBut but w before → HoldsNoneBut but w after
  walked_none {Told} {n} {w} but h made l = walked_each (λ k p. Some k ≢ but → HasNoDisk w p) h (λ k x other is. l k x is) (λ apart. turned_none h.turned made (l n h.p h.had apart))

  pub walked_made : {Told : Shard → Shard → List Note → Type 0} {n w : ℕ} {before after : List (Option (Pass T Note Origin))} (h : Walked Told n w before after) → AreMade h.turned.added → FetchedNone before → FetchedNone after
  walked_made {Told} {n} h made l = walked_each (λ k p. AreMade (own p)) h (λ k x other is. l k x is) (subst AreMade (sym h.turned.own_is) (both_made (own h.p) h.turned.added (l n h.p h.had) made))

  -- ---- a property that stays through turns which take no disk, through many of them

  module _ (w : ℕ) (K : List (Option (Pass T Note Origin)) → Type 0)
      (step : (Told : Shard → Shard → List Note → Type 0) (n : ℕ) (before after : List (Option (Pass T Note Origin))) (h : Walked Told n w before after) → AreMade h.turned.added → K before → K after) where
    event_keeps : {clock c : ℕ} {e : Event} {r : Result Outcome StepError} {n : ℕ} {before after : List (Option (Pass T Note Origin))} → Walked (EventTold clock w e r c) n w before after → K before → K after
    event_keeps {clock} {c} {e} {r} h l = step _ _ _ _ h (event_made clock w c e r h.turned.s h.turned.t h.turned.added h.turned.told) l

    landing_keeps : {clock c upto : ℕ} {pushed : Bool} {n : ℕ} {before after : List (Option (Pass T Note Origin))} → Walked (LandTold clock w pushed upto c) n w before after → K before → K after
    landing_keeps {clock} {c} {upto} {pushed} h l = step _ _ _ _ h (landing_made clock w c upto pushed h.turned.s h.turned.t h.turned.added h.turned.told) l

    look_keeps : {answer : Bool} {n : ℕ} {before after : List (Option (Pass T Note Origin))} → Walked (SettledTold answer) n w before after → K before → K after
    look_keeps h l = step _ _ _ _ h (subst AreMade (sym h.turned.told.added_is) tt) l

    flush_keeps : {n clock : ℕ} {before : List (Option (Pass T Note Origin))} {r : Result Flushed FlushError} {clock' : ℕ} {after : List (Option (Pass T Note Origin))} → FlushTold n w clock before r clock' after → K before → K after
    flush_keeps (one_turn r _ _ stays h) l = event_keeps h l
    flush_keeps (two_turns upto c _ pushed between _ h k known) l = landing_keeps k (event_keeps h l)

    bring_keeps : {count : ℕ} {m : _} {clock : ℕ} {before : List (Option (Pass T Note Origin))} {r : Result Carry CarryError} {clock' : ℕ} {after : List (Option (Pass T Note Origin))} → BringTold count m w clock before r clock' after → K before → K after
    bring_keeps (is_lost low) l = l
    bring_keeps (is_brought r clock' after low h) l = event_keeps h l

    message_keeps : {count n clock : ℕ} {before : List (Option (Pass T Note Origin))} {r : Result Carry CarryError} {clock' : ℕ} {after : List (Option (Pass T Note Origin))} → CarryTold count n w clock before r clock' after → K before → K after
    message_keeps (none_sent r _ _ unsent h) l = event_keeps h l
    message_keeps (one_sent m c between _ _ _ h b) l = bring_keeps b (event_keeps h l)

    rounds_keep : {count clock : ℕ} {before : List (Option (Pass T Note Origin))} {clock' : ℕ} {after : List (Option (Pass T Note Origin))} → Rounds count w clock before clock' after → K before → K after
    rounds_keep no_round l = l
    rounds_keep (flushes n r clock' after b low t) l = flush_keeps t (rounds_keep b l)
    rounds_keep (carries n r clock' after b low t) l = message_keeps t (rounds_keep b l)
    rounds_keep (reminds n r clock' after b low t) l = event_keeps t (rounds_keep b l)
    rounds_keep (looks n answer after b low t) l = look_keeps t (rounds_keep b l)

    refused_keeps : {count clock : ℕ} {before : List (Option (Pass T Note Origin))} {e : DrainError} {clock' : ℕ} {after : List (Option (Pass T Note Origin))} → Refused count w clock before e clock' after → K before → K after
    refused_keeps (no_flush n e clock' after b low t) l = flush_keeps t (rounds_keep b l)
    refused_keeps (no_message n e clock' after b low t) l = message_keeps t (rounds_keep b l)
    refused_keeps (no_reminder n r e clock' after b low t is) l = event_keeps t (rounds_keep b l)

    drain_keeps : (count clock : ℕ) (before : List (Option (Pass T Note Origin))) (r : Result Unit DrainError) (clock' : ℕ) (after : List (Option (Pass T Note Origin))) → DrainTold count w clock before r clock' after → K before → K after
    drain_keeps count clock before (Ok u) clock' after h l = rounds_keep h.0 l
    drain_keeps count clock before (Err e) clock' after h l = refused_keeps h l

    turns_keep : ((n horizon : ℕ) (ps qs : List (Option (Pass T Note Origin))) → Looked n ps horizon qs → K ps → K qs) → (c d : ℕ) (ps qs : List (Option (Pass T Note Origin))) (ts : List Turn) → Took w c ps ts d qs → K ps → K qs
    turns_keep look _ _ _ _ _ (no_turn clock ps) l = l
    turns_keep look _ _ _ _ _ (event_turn clock c clock' ps qs rs t ts walked made stays h) l = turns_keep look c clock' qs rs ts h (event_keeps walked l)
    turns_keep look _ _ _ _ _ (flush_turns clock c d clock' upto pushed ps ms qs rs t u ts out back is answer made same lands landed entered known h) l =
        turns_keep look d clock' qs rs ts h (landing_keeps back (event_keeps out l))
    turns_keep look _ _ _ _ _ (horizon_look clock clock' n horizon ps qs rs ts looked h) l = turns_keep look clock clock' qs rs ts h (look n horizon ps qs looked l)

  -- ---- the laws

  pub new_walkers_hold_none : NewWalkersHoldNone T
  new_walkers_hold_none splits founds locks w passes a k p is = λ apart held. absurd (let e : None ≡ Some w = sym (ap holder_of (new_pass splits founds locks w passes a k p is).0) ∙ held in cc)

  pub new_walkers_fetched_none : NewWalkersFetchedNone T
  new_walkers_fetched_none splits founds locks w passes a k p is = subst AreMade (sym (new_pass splits founds locks w passes a k p is).1) tt

  none_step : (but : Option ℕ) (w : ℕ) (Told : Shard → Shard → List Note → Type 0) (n : ℕ) (before after : List (Option (Pass T Note Origin))) (h : Walked Told n w before after) → AreMade h.turned.added → HoldsNoneBut but w before → HoldsNoneBut but w after
  none_step but w Told n before after h made l = walked_none but h made l

  made_step : (w : ℕ) (Told : Shard → Shard → List Note → Type 0) (n : ℕ) (before after : List (Option (Pass T Note Origin))) (h : Walked Told n w before after) → AreMade h.turned.added → FetchedNone before → FetchedNone after
  made_step w Told n before after h made l = walked_made h made l

  pub looks_hold_none : LooksHoldNone T
  looks_hold_none but answer w n before after h l = look_keeps w (HoldsNoneBut but w) (none_step but w) h l

  pub refused_fetches_hold_none : (D : Type 0) → RefusedFetchesHoldNone T D
  refused_fetches_hold_none D but w n Up before after h l = walked_none but h (subst AreMade (sym h.turned.told.2) tt) l
  refused_fetches_hold_none D but w n Away before after h l = walked_none but h (subst AreMade (sym h.turned.told.2) tt) l

  pub fetches_hold_one : {D : Type 0} → FetchesHoldOne T D
  fetches_hold_one w n r before after h l = walked_each (λ k p. Some k ≢ Some n → HasNoDisk w p) h (λ k x other is apart. l k x is (λ e. absurd (let i : Some k ≡ None = e in cc))) (λ apart. absurd (apart refl))

  pub drains_hold_none : DrainsHoldNone T
  drains_hold_none but count w clock before r clock' after h l = drain_keeps w (HoldsNoneBut but w) (none_step but w) count clock before r clock' after h l

  pub drains_fetch_none : DrainsFetchNone T
  drains_fetch_none count w clock before r clock' after h l = drain_keeps w FetchedNone (made_step w) count clock before r clock' after h l

  looked_none : (but : Option ℕ) (w n horizon : ℕ) (ps qs : List (Option (Pass T Note Origin))) → Looked n ps horizon qs → HoldsNoneBut but w ps → HoldsNoneBut but w qs
  looked_none but w n horizon ps qs h l = looked_each (λ k p. Some k ≢ but → HasNoDisk w p) h (λ k x other is. l k x is) (λ apart. subst (λ ns. holder_of ns ≢ Some w) (sym h.same.2) (l n h.p h.had apart))

  looked_made : (n horizon : ℕ) (ps qs : List (Option (Pass T Note Origin))) → Looked n ps horizon qs → FetchedNone ps → FetchedNone qs
  looked_made n horizon ps qs h l = looked_each (λ k p. AreMade (own p)) h (λ k x other is. l k x is) (subst AreMade (sym h.same.3) (l n h.p h.had))

  pub turns_hold_none : TurnsHoldNone T
  turns_hold_none but w c d ps qs ts h l = turns_keep w (HoldsNoneBut but w) (none_step but w) (looked_none but w) c d ps qs ts h l

  pub turns_fetch_none : TurnsFetchNone T
  turns_fetch_none w c d ps qs ts h l = turns_keep w FetchedNone (made_step w) looked_made c d ps qs ts h l

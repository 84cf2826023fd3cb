-- What a turn makes of what a pass knows of births.
use Rattle.std.proofs.Common.{◌≡◌, ◌∙◌, refl, sym, ap, subst, ℕ, ◌≤◌, ◌<◌, ◌==◌, Bool, true, false, cond, List, [], ◌∷◌, ◌++◌, length, get_or, set, map, append-nil, Option, Some, None, Result, arith, get_or-set_same, get_or-set_other}
use Rattle.std.specs.List.{AllByRecursion}
use Rattle.std.proofs.lemmas.Bool.{eq-eqb}
use mathlib.Core.Logic.{dite}
use native.Mathlib.Decide.{ℕ_discrete}
use Rattle.clv_base.specs.declared.events.Event.{Event}
use Rattle.clv_base.specs.declared.events.Event.TheVariants.{Op, RollTo, Request, Look, Drop, Send, Deliver, Remind, FlushOut, FlushIn, Stop, Restart}
use Rattle.clv_base.specs.declared.events.Outcome.{Outcome}
use Rattle.clv_base.specs.declared.events.Entry.{Entry}
use Rattle.clv_base.specs.State.{Shard}
use Rattle.clv_base.specs.Events.{step, land}
use Rattle.law_base.proofs.Lists.{all_mono, first_elem as a_lock, all_append, some_inside as past}
use Rattle.turn_lock.specs.declared.pass.Pass.{Pass}
use Rattle.turn_lock.specs.Journals.{entries_by}
use Rattle.turn_lock.specs.Passes.{seen, own, pass_origin}
use Rattle.journal_laws.specs.Walkers.{by_walker}
use Rattle.machine_calls.specs.declared.machine.StepError.{StepError}
use Rattle.machine_calls.specs.Steps.{Tells, listed}
use Rattle.machine_laws.specs.declared.notes.Note.{Note}
use Rattle.machine_laws.specs.declared.notes.Note.TheVariants.{Made, Fetched}
use Rattle.machine_laws.specs.declared.notes.Origin.{Origin}
use Rattle.machine_laws.specs.Notes.{noter, plain}
use Rattle.machine_laws.specs.Homes.{entries_in, state_of, IsLegal}
use Rattle.machine_laws.proofs.Laws.{entries_append, above}
use Rattle.cluster_turns.specs.Turns.{Turned, EventTold}
use Rattle.cluster_turns.specs.Walkers.{Walked}
use Rattle.cluster_turns.proofs.Walking.{event_rises}
use Rattle.cluster_turns.specs.Flights.{LandTold, landed_as}
use Rattle.cluster_turns.specs.CallTurns.{Turn, no_turn, event_turn, flush_turns, horizon_look}
use Rattle.cluster_turns.specs.Births.{IsBornBy, EachPass, IsInformed, AreInformed}
use Rattle.cluster_turns.specs.Laws.{InformedStay, InformedLater, NewAreInformed}
use Rattle.law_base.proofs.Options.{some_inj as some_same}

-- ---- one pass of many

module _ {T : Type 0} where
  pub one_changes : (P Q : Pass T Note Origin → Type 0) (n : ℕ) (ps : List (Option (Pass T Note Origin))) (p q : Pass T Note Origin) → ((d : Option (Pass T Note Origin)) → get_or ps n d ≡ Some p) → ((x : Pass T Note Origin) → P x → Q x) → (P p → Q q)
      → EachPass P ps → EachPass Q (set ps n (Some q))
  one_changes P Q n ps p q had others this each k x at = dite (ℕ_discrete k n)
      (λ same. let is : q ≡ x = some_same q x (sym (ap (λ j. get_or (set ps n (Some q)) j None) same ∙ get_or-set_same ps n (Some q) None (past ps n p had)) ∙ at None) in subst Q is (this (each n p had)))
      (λ other. others x (each k x (λ d. sym (get_or-set_other ps n k (Some q) d other) ∙ at d)))

-- ---- notes of a number

pub by_append : (w : ℕ) (xs ys : List Note) → entries_by noter w (xs ++ ys) ≡ entries_by noter w xs ++ entries_by noter w ys
by_append w [] ys = refl
by_append w (x ∷ xs) ys = at (noter x == w) (by_append w xs ys)
  where
    at : (b : Bool) → entries_by noter w (xs ++ ys) ≡ entries_by noter w xs ++ entries_by noter w ys
        → cond b (x ∷ entries_by noter w (xs ++ ys)) (entries_by noter w (xs ++ ys)) ≡ cond b (x ∷ entries_by noter w xs) (entries_by noter w xs) ++ entries_by noter w ys
    at true h = ap (λ l. x ∷ l) h
    at false h = h

pub by_one : (w : ℕ) (x : Note) → noter x ≡ w → entries_by noter w (x ∷ []) ≡ x ∷ []
by_one w x h = ap (λ b. cond b (x ∷ []) []) (eq-eqb (noter x) w h)

pub by_notes : (w : ℕ) (ns : List Note) → by_walker w (entries_in ns) ≡ entries_in (entries_by noter w ns)
by_notes w [] = refl
by_notes w (Made e log ∷ ns) = at (e.walker == w) (by_notes w ns)
  where
    at : (b : Bool) → by_walker w (entries_in ns) ≡ entries_in (entries_by noter w ns) → cond b (e ∷ by_walker w (entries_in ns)) (by_walker w (entries_in ns)) ≡ entries_in (cond b (Made e log ∷ entries_by noter w ns) (entries_by noter w ns))
    at true h = ap (λ l. e ∷ l) h
    at false h = h
by_notes w (Fetched v ∷ ns) = at (v == w) (by_notes w ns)
  where
    at : (b : Bool) → by_walker w (entries_in ns) ≡ entries_in (entries_by noter w ns) → by_walker w (entries_in ns) ≡ entries_in (cond b (Fetched v ∷ entries_by noter w ns) (entries_by noter w ns))
    at true h = h
    at false h = h

-- ---- what a turn adds

pub record AddsOwn (w clock : ℕ) (added : List Note) : Type 0 where
  pub by : entries_by noter w added ≡ added
  pub born : AllByRecursion (λ e. IsBornBy clock e.event) (entries_in added)

event_adds_own : (w clock c : ℕ) (e : Event) (r : Result Outcome StepError) (s t : Shard) (added : List Note) → EventTold clock w e r c s t added → IsBornBy clock e → AddsOwn w clock added
event_adds_own w clock c e r s t added h born = subst (AddsOwn w clock) (sym h.added_is) (at h.made h.tells)
  where
    at : (made : Option Entry) → Tells (step s clock w e) s clock w e r t made → AddsOwn w clock (map plain (listed made))
    at None k = record { by = refl; born = tt }
    at (Some x) (o, is, m) = record { by = by_one w (plain x) (ap (λ y. y.walker) m.entry_is); born = (subst (IsBornBy clock) (sym (ap (λ y. y.event) m.entry_is)) born, tt) }

landing_adds_own : (w clock c upto : ℕ) (pushed : Bool) (s t : Shard) (added : List Note) → LandTold clock w pushed upto c s t added → AddsOwn w clock added
landing_adds_own w clock c upto pushed s t added h =
    subst (AddsOwn w clock) (sym h.added_is) (record { by = by_one w (plain h.made) (ap (λ y. y.walker) h.made_is.entry_is); born = (subst (IsBornBy clock) (sym (ap (λ y. y.event) h.made_is.entry_is)) tt, tt) })

born_later : (c d : ℕ) → c ≤ d → (es : List Entry) → AllByRecursion (λ e. IsBornBy c e.event) es → AllByRecursion (λ e. IsBornBy d e.event) es
born_later c d l es h = all_mono (λ e. IsBornBy c e.event) (λ e. IsBornBy d e.event) (λ e k. later e.event k) es h
  where
    later : (e : Event) → IsBornBy c e → IsBornBy d e
    later (Op tx birth nth seen op) k = omega arith
    later (RollTo tx nth seen upto) k = tt
    later (Request tx ts) k = tt
    later (Look tx) k = tt
    later (Drop tx) k = tt
    later Send k = tt
    later (Deliver m stamp) k = tt
    later Remind k = tt
    later FlushOut k = tt
    later FlushIn k = tt
    later Stop k = tt
    later Restart k = tt

module _ {T : Type 0} where
  informed_by : (Told : Shard → Shard → List Note → Type 0) (w c d : ℕ) (p q : Pass T Note Origin) → c ≤ d → (t : Turned Told w p q) → AddsOwn w c t.added → IsInformed w c p → IsInformed w d q
  informed_by Told w c d p q l t adds i = record {
    legal = λ o has. let same : t.origin ≡ o = some_same t.origin o (sym (t.origin_is ∙ t.has_origin) ∙ has) in
        subst (λ x. IsLegal x (seen q) (state_of x (seen q))) same (subst (λ ns. IsLegal t.origin ns (state_of t.origin ns)) (sym t.seen_is) (subst (λ u. IsLegal t.origin (t.before ++ t.added) u) t.t_is.is t.t_is));
    own_seen = t.own_is ∙ ap (λ x. x ++ t.added) i.own_seen ∙ sym (ap (entries_by noter w) t.seen_is ∙ by_append w t.before t.added
        ∙ ap (λ x. entries_by noter w t.before ++ x) adds.by ∙ ap (λ x. x ++ t.added) (ap (entries_by noter w) t.found.1 ∙ by_append w (seen p) t.found.0 ∙ ap (λ x. entries_by noter w (seen p) ++ x) t.found.2 ∙ append-nil (entries_by noter w (seen p))));
    born = subst (λ es. AllByRecursion (λ e. IsBornBy d e.event) es) (sym (ap entries_in t.own_is ∙ entries_append (own p) t.added))
        (born_later c d l _ (all_append (λ e. IsBornBy c e.event) (entries_in (own p)) (entries_in t.added) i.born adds.born));
  }

  later_pass : (w c d : ℕ) → c ≤ d → (p : Pass T Note Origin) → IsInformed w c p → IsInformed w d p
  later_pass w c d l p i = record { legal = i.legal; own_seen = i.own_seen; born = born_later c d l _ i.born }

  pub informed_later : InformedLater T
  informed_later w c d ps l i n p had = later_pass w c d l p (i n p had)

  -- a pass that looked at its horizon
  same_pass : (w c : ℕ) (p q : Pass T Note Origin) → (pass_origin q ≡ pass_origin p) → seen q ≡ seen p → own q ≡ own p → IsInformed w c p → IsInformed w c q
  same_pass w c p q a b d i = record {
    legal = λ o has. subst (λ ns. IsLegal o ns (state_of o ns)) (sym b) (i.legal o (sym a ∙ has));
    own_seen = d ∙ i.own_seen ∙ ap (entries_by noter w) (sym b);
    born = subst (λ ns. AllByRecursion (λ e. IsBornBy c e.event) (entries_in ns)) (sym d) i.born;
  }

  pub changed : (P : Pass T Note Origin → Type 0) (n : ℕ) (ps qs : List (Option (Pass T Note Origin))) (q : Pass T Note Origin) → qs ≡ set ps n (Some q) → EachPass P (set ps n (Some q)) → EachPass P qs
  changed P n ps qs q is h = subst (EachPass P) (sym is) h

born_turns : (c d : ℕ) → c ≤ d → (ts : List Turn) → AllByRecursion (λ t. IsBornBy c t.event) ts → AllByRecursion (λ t. IsBornBy d t.event) ts
born_turns c d l [] h = tt
born_turns c d l (t ∷ ts) h = (later t.event h.0, born_turns c d l ts h.1)
  where
    later : (e : Event) → IsBornBy c e → IsBornBy d e
    later (Op tx birth nth seen op) k = omega arith
    later (RollTo tx nth seen upto) k = tt
    later (Request tx us) k = tt
    later (Look tx) k = tt
    later (Drop tx) k = tt
    later Send k = tt
    later (Deliver m stamp) k = tt
    later Remind k = tt
    later FlushOut k = tt
    later FlushIn k = tt
    later Stop k = tt
    later Restart k = tt

module _ {T : Type 0} where
  event_informs :
      (w clock c : ℕ) (t : Turn) (ps qs : List (Option (Pass T Note Origin))) → Walked (EventTold clock w t.event t.answer c) t.shard w ps qs → IsBornBy clock t.event → AreInformed w clock ps → AreInformed w c qs
  event_informs w clock c t ps qs walked b i =
      let l = event_rises clock w t.event t.answer c walked.turned.s walked.turned.t walked.turned.added walked.turned.told in
      let a = event_adds_own w clock c t.event t.answer walked.turned.s walked.turned.t walked.turned.added walked.turned.told b in
      changed (IsInformed w c) t.shard ps qs walked.q walked.after_is
      (one_changes (IsInformed w clock) (IsInformed w c) t.shard ps walked.p walked.q walked.had (λ x k. later_pass w clock c l x k) (informed_by _ w clock c walked.p walked.q l walked.turned a) i)

  lands_later : (w clock c upto n : ℕ) (pushed : Bool) (ps qs : List (Option (Pass T Note Origin))) → Walked (LandTold clock w pushed upto c) n w ps qs → clock ≤ c
  lands_later w clock c upto n pushed ps qs walked =
      let m = walked.turned.told in
      let up = above (land walked.turned.s clock w pushed) walked.turned.s clock w FlushIn (landed_as pushed upto) walked.turned.t m.made m.made_is in
      let e = m.clock_is in omega arith

  landing_informs : (w clock c upto n : ℕ) (pushed : Bool) (ps qs : List (Option (Pass T Note Origin))) → Walked (LandTold clock w pushed upto c) n w ps qs → AreInformed w clock ps → AreInformed w c qs
  landing_informs w clock c upto n pushed ps qs walked i =
      let l = lands_later w clock c upto n pushed ps qs walked in
      let a = landing_adds_own w clock c upto pushed walked.turned.s walked.turned.t walked.turned.added walked.turned.told in
      changed (IsInformed w c) n ps qs walked.q walked.after_is
      (one_changes (IsInformed w clock) (IsInformed w c) n ps walked.p walked.q walked.had (λ x k. later_pass w clock c l x k) (informed_by _ w clock c walked.p walked.q l walked.turned a) i)

  pub informed_stay : InformedStay T
  informed_stay w _ _ _ _ _ (no_turn clock ps) b i = i
  informed_stay w _ _ _ _ _ (event_turn clock c clock' ps qs rs t ts walked made stays h) b i =
      let l = event_rises clock w t.event t.answer c walked.turned.s walked.turned.t walked.turned.added walked.turned.told in
      informed_stay w c clock' qs rs ts h (born_turns clock c l ts b.1) (event_informs w clock c t ps qs walked b.0 i)
  informed_stay w _ _ _ _ _ (flush_turns clock c d clock' upto pushed ps ms qs rs t u ts out back is answer made same lands landed entered known h) b i =
      let one = event_rises clock w t.event t.answer c out.turned.s out.turned.t out.turned.added out.turned.told in
      let l : clock ≤ d = (let two = lands_later w c d upto t.shard pushed ms qs back in omega arith) in
      informed_stay w d clock' qs rs ts h (born_turns clock d l ts b.1.1) (landing_informs w c d upto t.shard pushed ms qs back (event_informs w clock c t ps ms out b.0 i))
  informed_stay w _ _ _ _ _ (horizon_look clock clock' n horizon ps qs rs ts looked h) b i =
      informed_stay w clock clock' qs rs ts h b
      (changed (IsInformed w clock) n ps qs looked.q looked.after_is
      (one_changes (IsInformed w clock) (IsInformed w clock) n ps looked.p looked.q looked.had (λ x k. k) (same_pass w clock looked.p looked.q looked.same.0 looked.same.2 looked.same.3) i))

-- ---- new passes

module _ {T : Type 0} where
  pub new_are_informed : NewAreInformed T
  new_are_informed splits founds locks w clock ps new n p had =
      let l = past ps n p had in
      let low : n < length locks = (let c = new.count in omega arith) in
      let t = new.each n None low in
      let same : t.0 ≡ p = some_same t.0 p (sym t.2 ∙ had None) in
      let is = t.3 (a_lock locks (omega arith)) in
      subst (IsInformed w clock) same (record {
        legal = λ o has. subst (λ ns. IsLegal o ns (state_of o ns)) (sym is.3) (record { may = tt; is = refl; entries = refl; own_ends = refl; named = refl });
        own_seen = is.4 ∙ ap (entries_by noter w) (sym is.3);
        born = subst (λ ns. AllByRecursion (λ e. IsBornBy clock e.event) (entries_in ns)) (sym is.4) tt;
      })

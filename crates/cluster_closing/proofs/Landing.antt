-- Who has a gate, through the turns of a walker and of others.
use Rattle.std.proofs.Common.{◌≡◌, ◌≢◌, ℕ, Bool, true, false, cond, ◌==◌, List, [], ◌∷◌, ◌++◌, map, length, get_or, set, sym, ap, refl, ◌∙◌, subst, append-nil, arith, Option, Some, None, Result, Ok, Err, get_or-set_same, get_or-set_other}
use Rattle.std.proofs.lemmas.Bool.{both_ways}
use mathlib.Core.Logic.{dite}
use native.Mathlib.Decide.{ℕ_discrete}
use Rattle.clv_base.specs.declared.logs.LogRecord.{LogRecord}
use Rattle.clv_base.specs.declared.events.Event.{Event}
use Rattle.clv_base.specs.declared.events.Event.TheVariants.{Op, RollTo, Request, Look, Drop, Send, Deliver, Remind, FlushOut, FlushIn, Stop, Restart}
use Rattle.clv_base.specs.declared.events.Outcome.{Outcome}
use Rattle.clv_base.specs.declared.events.Entry.{Entry}
use Rattle.clv_base.specs.State.{Shard}
use Rattle.clv_base.specs.declared.events.Outcome.TheVariants.{Out, Sent}
use Rattle.clv_base.specs.Events.{CallAnswer, step, to_of}
use Rattle.turn_lock.specs.Journals.{entries_by}
use Rattle.turn_lock.specs.declared.pass.TurnLock.{TurnLock}
use Rattle.turn_lock.specs.declared.pass.Pass.{Pass}
use Rattle.turn_lock.specs.Passes.{seen, own}
use Rattle.machine_calls.specs.declared.machine.StepError.{StepError}
use Rattle.machine_calls.specs.Steps.{Tells, listed}
use Rattle.machine_laws.specs.declared.notes.Note.{Note}
use Rattle.machine_laws.specs.declared.notes.Note.TheVariants.{Made, Fetched}
use Rattle.machine_laws.specs.declared.notes.Origin.{Origin}
use Rattle.machine_laws.specs.Notes.{noter, plain}
use Rattle.machine_laws.specs.Homes.{entries_in, taker_after, taker, is_taker, is_single}
use Rattle.machine_laws.proofs.Laws.{entries_append, taker_append, departing, other_first as first_other}
use Rattle.cluster_turns.specs.Turns.{Turned, EventTold, SettledTold}
use Rattle.cluster_turns.specs.Walkers.{Walked, Looked, AreNewPasses}
use Rattle.cluster_turns.specs.declared.flushing.Flushed.{Flushed}
use Rattle.cluster_turns.specs.declared.flushing.FlushError.{FlushError}
use Rattle.cluster_turns.specs.Told.{has_no_flight, FlushTold, one_turn, two_turns}
use Rattle.cluster_turns.specs.declared.carrying.Carry.{Carry}
use Rattle.cluster_turns.specs.declared.carrying.CarryError.{CarryError}
use Rattle.cluster_turns.specs.Carried.{BringTold, is_lost, is_brought, CarryTold, none_sent, one_sent}
use Rattle.cluster_turns.specs.declared.tending.DrainError.{DrainError}
use Rattle.cluster_turns.specs.Rounds.{Rounds, no_turn, flushes, carries, reminds, looks, Refused, no_flush, no_message, no_reminder, DrainTold}
use Rattle.cluster_closing.specs.Landed.{EachPass, HasOwn, IsHome, HasLanded}
use Rattle.clv_base.proofs.Folding.{eq_self as self}
use Rattle.cluster_turns.proofs.Laws.{by_append}

-- ---- notes of one walker among others'

takes_not : (t : Option ℕ) (w v : ℕ) (e : Event) → (v == w) ≡ false → is_taker t w ≡ false → is_taker (taker_after t v e) w ≡ false
takes_not t w v FlushOut d h = d
takes_not t w v FlushIn d h = refl
takes_not t w v (Op tx birth nth s op) d h = h
takes_not t w v (RollTo tx nth s upto) d h = h
takes_not t w v (Request tx ts) d h = h
takes_not t w v (Look tx) d h = h
takes_not t w v (Drop tx) d h = h
takes_not t w v Send d h = h
takes_not t w v (Deliver m stamp) d h = h
takes_not t w v Remind d h = h
takes_not t w v Stop d h = h
takes_not t w v Restart d h = h

-- others' turns give the gate to others alone
pub others_take : (t : Option ℕ) (w : ℕ) (ns : List Note) → entries_by noter w ns ≡ [] → is_taker t w ≡ false → is_taker (taker t (entries_in ns)) w ≡ false
others_take t w [] none h = h
others_take t w (Made e log ∷ ns) none h =
    let f = first_other w (Made e log) ns (e.walker == w) refl none in others_take (taker_after t e.walker e.event) w ns f.1 (takes_not t w e.walker e.event f.0 h)
others_take t w (Fetched v ∷ ns) none h = others_take t w ns (first_other w (Fetched v) ns (v == w) refl none).1 h

single_takes : (t : Option ℕ) (v : ℕ) (e : Event) → is_single e ≡ true → taker_after t v e ≡ t
single_takes t v (Op tx birth nth s op) h = refl
single_takes t v (RollTo tx nth s upto) h = refl
single_takes t v (Request tx ts) h = refl
single_takes t v (Look tx) h = refl
single_takes t v (Drop tx) h = refl
single_takes t v Send h = refl
single_takes t v (Deliver m stamp) h = refl
single_takes t v Remind h = refl
single_takes t v FlushOut h = absurd (both_ways false refl h)
single_takes t v FlushIn h = absurd (both_ways false refl h)
single_takes t v Stop h = absurd (both_ways false refl h)
single_takes t v Restart h = absurd (both_ways false refl h)

one_own : (w : ℕ) (x : Entry) → x.walker ≡ w → entries_by noter w (plain x ∷ []) ≡ plain x ∷ []
one_own w x is = at (x.walker == w) (ap (λ v. v == w) is ∙ self w)
  where
    at : (b : Bool) → b ≡ true → cond b (plain x ∷ []) [] ≡ plain x ∷ []
    at true h = refl
    at false h = absurd (both_ways false refl h)

-- the notes of an event are the walker's
event_own : (answer : CallAnswer) (s t : Shard) (clock w : ℕ) (e : Event) (r : Result Outcome StepError) (x : Option Entry) → Tells answer s clock w e r t x → entries_by noter w (map plain (listed x)) ≡ map plain (listed x)
event_own answer s t clock w e r None h = refl
event_own answer s t clock w e r (Some x) h = one_own w x (ap (λ y. y.walker) h.2.entry_is)

event_takes : (answer : CallAnswer) (s t : Shard) (clock w : ℕ) (e : Event) (r : Result Outcome StepError) (x : Option Entry) (k : Option ℕ) → Tells answer s clock w e r t x → is_single e ≡ true → taker k (entries_in (map plain (listed x))) ≡ k
event_takes answer s t clock w e r None k h single = refl
event_takes answer s t clock w e r (Some x) k h single = ap (λ y. taker_after k y.walker y.event) h.2.entry_is ∙ single_takes k w e single

no_entry : (s t : Shard) (clock w : ℕ) (r : Result Outcome StepError) (x : Option Entry) → Tells (step s clock w FlushOut) s clock w FlushOut r t x → has_no_flight r ≡ true → x ≡ None
no_entry s t clock w r None h stayed_home = refl
no_entry s t clock w r (Some x) h stayed_home = absurd (let f = departing s clock w h.0 t x h.2 in let k : has_no_flight (Ok (Out f.upto)) ≡ true = ap has_no_flight (ap (λ o. Ok o) (sym f.outcome) ∙ sym h.1) ∙ stayed_home in both_ways false refl k)

some_elem : {X : Type 0} (xs : List X) (k : ℕ) → Rattle.std.specs.Prelude.◌<◌ k (length xs) → X
some_elem [] k l = absurd (omega arith)
some_elem (x ∷ xs) k l = x

module _ {T : Type 0} where
  -- ---- one turn

  pub turned_own : {Told : Shard → Shard → List Note → Type 0} {w : ℕ} {p q : Pass T Note Origin} (t : Turned Told w p q) → entries_by noter w t.added ≡ t.added → HasOwn w p → HasOwn w q
  turned_own {Told} {w} {p} {q} t by h =
      let others = t.found in
      let before : entries_by noter w t.before ≡ entries_by noter w (seen p) = ap (entries_by noter w) others.1 ∙ by_append w (seen p) others.0 ∙ ap (λ l. entries_by noter w (seen p) ++ l) others.2 ∙ append-nil (entries_by noter w (seen p)) in
      t.own_is ∙ ap (λ l. l ++ t.added) (h ∙ sym before) ∙ ap (λ l. entries_by noter w t.before ++ l) (sym by) ∙ sym (by_append w t.before t.added) ∙ ap (entries_by noter w) (sym t.seen_is)

  -- who has the gate after it
  pub taker_now : {Told : Shard → Shard → List Note → Type 0} {w : ℕ} {p q : Pass T Note Origin} (t : Turned Told w p q) → taker None (entries_in (seen q)) ≡ taker (taker None (entries_in t.before)) (entries_in t.added)
  taker_now t = ap (λ l. taker None (entries_in l)) t.seen_is ∙ ap (taker None) (entries_append t.before t.added) ∙ taker_append None (entries_in t.before) (entries_in t.added)

  pub home_before : {Told : Shard → Shard → List Note → Type 0} {w : ℕ} {p q : Pass T Note Origin} (t : Turned Told w p q) → IsHome w p → is_taker (taker None (entries_in t.before)) w ≡ false
  home_before {Told} {w} {p} t h =
      let others = t.found in
      ap (λ k. is_taker k w) (ap (λ l. taker None (entries_in l)) others.1 ∙ ap (taker None) (entries_append (seen p) others.0) ∙ taker_append None (entries_in (seen p)) (entries_in others.0))
      ∙ others_take (taker None (entries_in (seen p))) w others.0 others.2 h

  -- ---- one place of all

  pub some_inj : (p q : Pass T Note Origin) → Some p ≡ Some q → p ≡ q
  some_inj p q h = cc

  pub inside : (xs : List (Option (Pass T Note Origin))) (n : ℕ) (p : Pass T Note Origin) → ((d : Option (Pass T Note Origin)) → get_or xs n d ≡ Some p) → Rattle.std.specs.Prelude.◌<◌ n (length xs)
  inside [] n p h = absurd (let k : None ≡ Some p = h None in cc)
  inside (x ∷ xs) Rattle.std.proofs.Common.zero p h = omega arith
  inside (x ∷ xs) (Rattle.std.proofs.Common.suc n) p h = let k = inside xs n p h in omega arith

  placed : (P : ℕ → Pass T Note Origin → Type 0) (before : List (Option (Pass T Note Origin))) (n : ℕ) (p q : Pass T Note Origin) → ((d : Option (Pass T Note Origin)) → get_or before n d ≡ Some p)
      → ((k : ℕ) (x : Pass T Note Origin) → k ≢ n → ((d : Option (Pass T Note Origin)) → get_or before k d ≡ Some x) → P k x) → P n q → EachPass P (set before n (Some q))
  placed P before n p q had others new k x is = dite (ℕ_discrete k n)
      (λ same. subst (λ (j : ℕ). P j x) (sym same)
      (subst (P n) (some_inj q x (sym (get_or-set_same before n (Some q) None (inside before n p had)) ∙ ap (λ (j : ℕ). get_or (set before n (Some q)) j None) (sym same) ∙ is None)) new))
      (λ other. others k x other (λ d. sym (get_or-set_other before n k (Some q) d other) ∙ is d))

  pub walked_each : {Told : Shard → Shard → List Note → Type 0} {n w : ℕ} {before after : List (Option (Pass T Note Origin))} (P : ℕ → Pass T Note Origin → Type 0) (h : Walked Told n w before after)
      → ((k : ℕ) (x : Pass T Note Origin) → k ≢ n → ((d : Option (Pass T Note Origin)) → get_or before k d ≡ Some x) → P k x) → P n h.q → EachPass P after
  walked_each {Told} {n} {w} {before} P h others new = subst (EachPass P) (sym h.after_is) (placed P before n h.p h.q h.had others new)

  pub looked_each : {n horizon : ℕ} {before after : List (Option (Pass T Note Origin))} (P : ℕ → Pass T Note Origin → Type 0) (h : Looked n before horizon after)
      → ((k : ℕ) (x : Pass T Note Origin) → k ≢ n → ((d : Option (Pass T Note Origin)) → get_or before k d ≡ Some x) → P k x) → P n h.q → EachPass P after
  looked_each {n} {horizon} {before} P h others new = subst (EachPass P) (sym h.after_is) (placed P before n h.p h.q h.had others new)

  -- a new pass has seen nothing
  pub new_pass : (splits : List ℕ) (founds : List (List LogRecord)) (locks : List (TurnLock T Note Origin)) (w : ℕ) (passes : List (Option (Pass T Note Origin))) → AreNewPasses splits founds locks w passes
      → (k : ℕ) (p : Pass T Note Origin) → ((d : Option (Pass T Note Origin)) → get_or passes k d ≡ Some p) → (seen p ≡ []) × (own p ≡ [])
  new_pass splits founds locks w passes a k p is =
      let low : Rattle.std.specs.Prelude.◌<◌ k (length locks) = (let l = inside passes k p is in let c = a.count in omega arith) in
      let t = a.each k None low in
      let same : t.0 ≡ p = some_inj t.0 p (sym t.2 ∙ is None) in
      let v = t.3 (some_elem locks k low) in (subst (λ x. seen x ≡ []) same v.3, subst (λ x. own x ≡ []) same v.4)

  -- ---- the laws

  pub new_have_landed : (splits : List ℕ) (founds : List (List LogRecord)) (locks : List (TurnLock T Note Origin)) (w : ℕ) (passes : List (Option (Pass T Note Origin))) → AreNewPasses splits founds locks w passes → HasLanded w passes
  new_have_landed splits founds locks w passes a = record {
    own = λ k p is. (let t = new_pass splits founds locks w passes a k p is in t.1 ∙ ap (entries_by noter w) (sym t.0));
    home = λ k p is. ap (λ l. is_taker (taker None (entries_in l)) w) (new_pass splits founds locks w passes a k p is).0;
  }

  pub events_land : (clock w n : ℕ) (e : Event) (r : Result Outcome StepError) (clock' : ℕ) (before after : List (Option (Pass T Note Origin))) → Walked (EventTold clock w e r clock') n w before after → is_single e ≡ true → HasLanded w before → HasLanded w after
  events_land clock w n e r clock' before after h single l =
      let t = h.turned in
      let v = t.told in
      let by : entries_by noter w t.added ≡ t.added = subst (λ a. entries_by noter w a ≡ a) (sym v.added_is) (event_own (step t.s clock w e) t.s t.t clock w e r v.made v.tells) in
      record {
        own = walked_each (λ k. HasOwn w) h (λ k x other is. l.own k x is) (turned_own t by (l.own n h.p h.had));
        home = walked_each (λ k. IsHome w) h (λ k x other is. l.home k x is)
            (ap (λ k. is_taker k w) (taker_now t ∙ ap (λ a. taker (taker None (entries_in t.before)) (entries_in a)) v.added_is ∙ event_takes (step t.s clock w e) t.s t.t clock w e r v.made (taker None (entries_in t.before)) v.tells single)
            ∙ home_before t (l.home n h.p h.had));
      }

  looks_land : (answer : Bool) (w n : ℕ) (before after : List (Option (Pass T Note Origin))) → Walked (SettledTold answer) n w before after → HasLanded w before → HasLanded w after
  looks_land answer w n before after h l =
      let t = h.turned in
      let v = t.told in
      record {
        own = walked_each (λ k. HasOwn w) h (λ k x other is. l.own k x is) (turned_own t (subst (λ a. entries_by noter w a ≡ a) (sym v.added_is) refl) (l.own n h.p h.had));
        home = walked_each (λ k. IsHome w) h (λ k x other is. l.home k x is) (ap (λ k. is_taker k w) (taker_now t ∙ ap (λ a. taker (taker None (entries_in t.before)) (entries_in a)) v.added_is) ∙ home_before t (l.home n h.p h.had));
      }

  -- ---- a flush

  walked_others : {Told : Shard → Shard → List Note → Type 0} {n w : ℕ} {before after : List (Option (Pass T Note Origin))} → Walked Told n w before after → (k : ℕ) (x : Pass T Note Origin) → k ≢ n
      → ((d : Option (Pass T Note Origin)) → get_or after k d ≡ Some x) → (d : Option (Pass T Note Origin)) → get_or before k d ≡ Some x
  walked_others {Told} {n} {w} {before} {after} h k x other is d = sym (get_or-set_other before n k (Some h.q) d other) ∙ ap (λ ps. get_or ps k d) (sym h.after_is) ∙ is d

  pub flushes_land : (n w clock : ℕ) (before : List (Option (Pass T Note Origin))) (r : Result Flushed FlushError) (clock' : ℕ) (after : List (Option (Pass T Note Origin))) → FlushTold n w clock before r clock' after → HasLanded w before → HasLanded w after
  flushes_land n w clock before _ clock' after (one_turn r _ _ stays h) l =
      let t = h.turned in
      let v = t.told in
      let none : t.added ≡ [] = v.added_is ∙ ap (λ x. map plain (listed x)) (no_entry t.s t.t clock w r v.made v.tells stays) in
      record {
        own = walked_each (λ k. HasOwn w) h (λ k x other is. l.own k x is) (turned_own t (subst (λ a. entries_by noter w a ≡ a) (sym none) refl) (l.own n h.p h.had));
        home = walked_each (λ k. IsHome w) h (λ k x other is. l.home k x is) (ap (λ k. is_taker k w) (taker_now t ∙ ap (λ a. taker (taker None (entries_in t.before)) (entries_in a)) none) ∙ home_before t (l.home n h.p h.had));
      }
  flushes_land n w clock before _ clock' after (two_turns upto c _ pushed between _ h k known) l =
      let t = h.turned in
      let v = t.told in
      let u = k.turned in
      let m = u.told in
      let first : entries_by noter w t.added ≡ t.added = subst (λ a. entries_by noter w a ≡ a) (sym v.added_is) (event_own (step t.s clock w FlushOut) t.s t.t clock w FlushOut (Ok (Out upto)) v.made v.tells) in
      let second : entries_by noter w u.added ≡ u.added = subst (λ a. entries_by noter w a ≡ a) (sym m.added_is) (one_own w m.made (ap (λ y. y.walker) m.made_is.entry_is)) in
      let mid = walked_each (λ k. HasOwn w) h (λ k x other is. l.own k x is) (turned_own t first (l.own n h.p h.had)) in
      let none : taker None (entries_in (seen k.q)) ≡ None =
      taker_now u ∙ ap (λ a. taker (taker None (entries_in u.before)) (entries_in a)) m.added_is ∙ ap (λ y. taker_after (taker None (entries_in u.before)) y.walker y.event) m.made_is.entry_is in
      record {
        own = walked_each (λ k. HasOwn w) k (λ j x other is. mid j x is) (turned_own u second (mid n k.p k.had));
        home = walked_each (λ k. IsHome w) k (λ j x other is. l.home j x (walked_others h j x other is)) (ap (λ o. is_taker o w) none);
      }

  -- ---- messages and drains

  brings_land : {count : ℕ} {m : _} {w clock : ℕ} {before : List (Option (Pass T Note Origin))} {r : Result Carry CarryError} {clock' : ℕ} {after : List (Option (Pass T Note Origin))} → BringTold count m w clock before r clock' after → HasLanded w before → HasLanded w after
  brings_land (is_lost low) l = l
  brings_land {count} {m} {w} {clock} {before} (is_brought r clock' after low h) l = events_land clock w (to_of m) (Deliver m clock) r clock' before after h refl l

  pub messages_land : (count n w clock : ℕ) (before : List (Option (Pass T Note Origin))) (r : Result Carry CarryError) (clock' : ℕ) (after : List (Option (Pass T Note Origin))) → CarryTold count n w clock before r clock' after → HasLanded w before → HasLanded w after
  messages_land count n w clock before _ clock' after (none_sent r _ _ unsent h) l = events_land clock w n Send r clock' before after h refl l
  messages_land count n w clock before r clock' after (one_sent m c between _ _ _ h b) l = brings_land b (events_land clock w n Send (Ok (Sent m)) c before between h refl l)

  rounds_land : {count w clock : ℕ} {before : List (Option (Pass T Note Origin))} {clock' : ℕ} {after : List (Option (Pass T Note Origin))} → Rounds count w clock before clock' after → HasLanded w before → HasLanded w after
  rounds_land no_turn l = l
  rounds_land {count} {w} (flushes {c} {between} n r clock' after b low t) l = flushes_land n w c between r clock' after t (rounds_land b l)
  rounds_land {count} {w} (carries {c} {between} n r clock' after b low t) l = messages_land count n w c between r clock' after t (rounds_land b l)
  rounds_land {count} {w} (reminds {c} {between} n r clock' after b low t) l = events_land c w n Remind r clock' between after t refl (rounds_land b l)
  rounds_land {count} {w} (looks {c} {between} n answer after b low t) l = looks_land answer w n between after t (rounds_land b l)

  refused_land : {count w clock : ℕ} {before : List (Option (Pass T Note Origin))} {e : DrainError} {clock' : ℕ} {after : List (Option (Pass T Note Origin))} → Refused count w clock before e clock' after → HasLanded w before → HasLanded w after
  refused_land {count} {w} (no_flush {c} {between} n e clock' after b low t) l = flushes_land n w c between (Err e) clock' after t (rounds_land b l)
  refused_land {count} {w} (no_message {c} {between} n e clock' after b low t) l = messages_land count n w c between (Err e) clock' after t (rounds_land b l)
  refused_land {count} {w} (no_reminder {c} {between} n r e clock' after b low t is) l = events_land c w n Remind r clock' between after t refl (rounds_land b l)

  pub drains_land : (count w clock : ℕ) (before : List (Option (Pass T Note Origin))) (r : Result Unit DrainError) (clock' : ℕ) (after : List (Option (Pass T Note Origin))) → DrainTold count w clock before r clock' after → HasLanded w before → HasLanded w after
  drains_land count w clock before (Ok u) clock' after h l = rounds_land h.0 l
  drains_land count w clock before (Err e) clock' after h l = refused_land h l

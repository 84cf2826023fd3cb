-- What one turn makes of a walker.
use Rattle.std.proofs.Common.{◌≡◌, ℕ, zero, suc, ◌<◌, ◌≤◌, Bool, true, false, not, ◌||◌, List, [], ◌∷◌, ◌++◌, length, get_or, set, map, sym, ap, refl, ◌∙◌, subst, arith, append-nil, Option, Some, None, Result, Ok, Err, nat_lt, ◌^◌, get_or-set_same, get_or-set_other, length-set}
use Rattle.std.specs.List.{AllByRecursion}
use Rattle.std.proofs.lemmas.List.{map-set}
use mathlib.Core.Logic.{dite}
use native.Mathlib.Decide.{ℕ_discrete}
use Rattle.clv_base.specs.declared.logs.LogRecord.{LogRecord}
use Rattle.clv_base.specs.declared.events.Event.{Event}
use Rattle.clv_base.specs.declared.events.Outcome.{Outcome}
use Rattle.clv_base.specs.declared.events.Entry.{Entry}
use Rattle.clv_base.specs.Events.{CallAnswer, step, happen, next_stamp}
use Rattle.clv_base.specs.State.{Shard}
use Rattle.clv_base.specs.Shards.{shard_count}
use Rattle.clv_base.specs.Restarts.{run_after}
use Rattle.clv_base.specs.Sessions.{is_session, is_of_session, is_session_number}
use Rattle.std.proofs.lemmas.Bool.{both_ways}
use Rattle.journal_laws.specs.Offers.{may_make}
use Rattle.clv_base.specs.declared.events.Event.TheVariants.{Op, RollTo, Request, Look, Drop, Send, Deliver, Remind, FlushOut, FlushIn, Stop, Restart}
use Rattle.clv_base.specs.History.{WasSent}
use Rattle.clv_base.specs.Journals.{History}
use Rattle.law_base.proofs.Lists.{all_mono, all_push}
use Rattle.history_replay.specs.Entries.{entries_of, on_shard}
use Rattle.journal_laws.specs.Gathered.{journal_at}
use Rattle.journal_laws.specs.Walkers.{is_numbered}
use Rattle.machine_calls.specs.declared.machine.StepError.{StepError}
use Rattle.machine_calls.specs.declared.machine.StepError.TheVariants.{Memory, Worn}
use Rattle.machine_calls.specs.Steps.{entry, Made as IsMade, Tells, clock_after, idle_clock, listed}
use Rattle.turn_lock.specs.declared.pass.TurnLock.{TurnLock}
use Rattle.turn_lock.specs.declared.pass.Pass.{Pass}
use Rattle.turn_lock.specs.Passes.{number, own, IsPassOf}
use Rattle.machine_laws.specs.declared.notes.Note.{Note}
use Rattle.machine_laws.specs.declared.notes.Origin.{Origin}
use Rattle.machine_laws.specs.Homes.{entries_in, is_single}
use Rattle.machine_laws.proofs.Laws.{own_entries_go_on, walkers_go_on, entries_append, from_does, above, each_outcome_goes_on, others_keep_sessions}
use Rattle.machine_laws.specs.Notes.{plain}
use Rattle.cluster_turns.specs.Turns.{Turned, EventTold}
use Rattle.cluster_turns.specs.Walkers.{IsPassAt, ArePassesOf, own_of, own_lists, kept, IsWalkerOf, Walked, GoesOn}

-- what a turn adds to what a walker with this clock keeps: nothing, or one entry that comes after all
pub data Adds (splits : List ℕ) (run w n clock clock' : ℕ) (es : History) : List Entry → Type 0 where
  none : clock ≤ clock' → Adds splits run w n clock clock' es []
  one :
      (x : Entry) → clock < x.stamp → x.stamp ≤ clock' → is_session splits run w (es ++ (n, x) ∷ []) ≡ true → is_numbered w (n, x) ≡ true → WasSent es x.event
      → Adds splits run w n clock clock' es (x ∷ [])

set_same : (xs : List (List Entry)) (n : ℕ) (y : List Entry) → n < length xs → journal_at xs n ≡ y → set xs n y ≡ xs
set_same [] n y l h = refl
set_same (x ∷ xs) zero y l h = ap (λ z. z ∷ xs) (sym h)
set_same (x ∷ xs) (suc n) y l h = ap (λ z. x ∷ z) (set_same xs n y (omega arith) h)

module _ {T : Type 0} where
  at_own : (ps : List (Option (Pass T Note Origin))) (n : ℕ) (p : Pass T Note Origin) → ((d : Option (Pass T Note Origin)) → get_or ps n d ≡ Some p) → journal_at (own_lists ps) n ≡ entries_in (own p)
  at_own [] n p h = absurd (let k : None ≡ Some p = h None in cc)
  at_own (x ∷ xs) zero p h = ap own_of (h None)
  at_own (x ∷ xs) (suc n) p h = at_own xs n p h

  own_length : (ps : List (Option (Pass T Note Origin))) → length (own_lists ps) ≡ length ps
  own_length [] = refl
  own_length (x ∷ xs) = ap suc (own_length xs)

  still_passes : (splits : List ℕ) (founds : List (List LogRecord)) (locks : List (TurnLock T Note Origin)) (n w : ℕ) (ps : List (Option (Pass T Note Origin))) (q : Pass T Note Origin) → n < length locks → ArePassesOf splits founds locks w ps
      → IsPassAt splits founds locks w n q → ArePassesOf splits founds locks w (set ps n (Some q))
  still_passes splits founds locks n w ps q l is new = record {
    count = length-set ps n (Some q) ∙ is.count;
    each = λ k d lk. dite (ℕ_discrete k n)
        (λ same. (q, ap (λ j. get_or (set ps n (Some q)) j d) same ∙ get_or-set_same ps n (Some q) d (let h = is.count in omega arith), subst (λ (j : ℕ). IsPassAt splits founds locks w j q) (sym same) new))
        (λ other. let t = is.each k d lk in (t.0, get_or-set_other ps n k (Some q) d other ∙ t.1, t.2));
  }

  -- the pass after a turn is one of the walker's
  pub still_pass : (splits : List ℕ) (founds : List (List LogRecord)) (locks : List (TurnLock T Note Origin)) (w n : ℕ) (Told : Shard → Shard → List Note → Type 0) (p q : Pass T Note Origin) → IsPassAt splits founds locks w n p → Turned Told w p q
      → ((l : TurnLock T Note Origin) → IsPassOf (get_or locks n l) q) → IsPassAt splits founds locks w n q
  still_pass splits founds locks w n Told p q a t ours = record { ours = ours; number_is = t.number_is ∙ a.number_is; origin = a.origin; has_origin = t.origin_is ∙ a.has_origin; origin_is = a.origin_is }

  module _ (splits : List ℕ) (founds : List (List LogRecord)) (locks : List (TurnLock T Note Origin)) (n w clock clock' : ℕ) (Told : Shard → Shard → List Note → Type 0) (ps : List (Option (Pass T Note Origin))) (p q : Pass T Note Origin) where
    own_after : Turned Told w p q → own_lists (set ps n (Some q)) ≡ set (own_lists ps) n (entries_in (own q))
    own_after t = map-set own_of ps n (Some q)

    own_grows : (t : Turned Told w p q) → ((d : Option (Pass T Note Origin)) → get_or ps n d ≡ Some p) → entries_in (own q) ≡ journal_at (own_lists ps) n ++ entries_in t.added
    own_grows t had = ap entries_in t.own_is ∙ entries_append (own p) t.added ∙ ap (λ l. l ++ entries_in t.added) (sym (at_own ps n p had))

    walks_by : (added : List Entry) → Adds splits (run_after founds) w n clock clock' (kept ps) added → IsWalkerOf splits founds locks w clock ps → length locks ≡ shard_count splits → n < length locks → (t : Turned Told w p q)
        → IsPassAt splits founds locks w n q → own_lists (set ps n (Some q)) ≡ set (own_lists ps) n (journal_at (own_lists ps) n ++ added)
        → IsWalkerOf splits founds locks w clock' (set ps n (Some q)) × (kept (set ps n (Some q)) ≡ kept ps ++ on_shard n added)
    walks_by [] (none rise) is count l t new own_is =
        let low : n < length (own_lists ps) = (let h = is.are_passes.count in let k = own_length ps in omega arith) in
        let same : own_lists (set ps n (Some q)) ≡ own_lists ps = own_is ∙ ap (set (own_lists ps) n) (append-nil (journal_at (own_lists ps) n)) ∙ set_same (own_lists ps) n (journal_at (own_lists ps) n) low refl in
        let k : kept (set ps n (Some q)) ≡ kept ps = ap entries_of same in (
          record {
            are_passes = still_passes splits founds locks n w ps q l is.are_passes new;
            keeps = subst (Rattle.journal_laws.specs.Walkers.WalkerKeeps splits (run_after founds) w) (sym k) is.keeps;
            in_time = subst (AllByRecursion (λ f. (f.1).stamp ≤ clock')) (sym k) (all_mono (λ f. (f.1).stamp ≤ clock) (λ f. (f.1).stamp ≤ clock') (λ f h. omega arith) (kept ps) is.in_time);
          },
          k ∙ sym (append-nil (kept ps)),
        )
    walks_by (x ∷ (_ ∷ _)) adds is count l t new own_is = elim adds [ ]
    walks_by (x ∷ []) (one _ later upto session numbered sent) is count l t new own_is =
        let low : n < length (own_lists ps) = (let h = is.are_passes.count in let k = own_length ps in omega arith) in
        let before = all_mono (λ f. (f.1).stamp ≤ clock) (λ f. (f.1).stamp < x.stamp) (λ f h. omega arith) (kept ps) is.in_time in
        let k : kept (set ps n (Some q)) ≡ kept ps ++ (n, x) ∷ [] = ap entries_of own_is ∙ own_entries_go_on (own_lists ps) n x low is.keeps.stamps before in (
          record {
            are_passes = still_passes splits founds locks n w ps q l is.are_passes new;
            keeps = subst (Rattle.journal_laws.specs.Walkers.WalkerKeeps splits (run_after founds) w) (sym k) (walkers_go_on splits (run_after founds) w (kept ps) (n, x) is.keeps (omega arith) before session numbered sent);
            in_time = subst (AllByRecursion (λ f. (f.1).stamp ≤ clock')) (sym k) (all_push (λ f. (f.1).stamp ≤ clock') (kept ps) (n, x) (all_mono (λ f. (f.1).stamp ≤ clock) (λ f. (f.1).stamp ≤ clock') (λ f h. omega arith) (kept ps) is.in_time) upto);
          },
          k,
        )

    pub walks : IsWalkerOf splits founds locks w clock ps → length locks ≡ shard_count splits → n < length locks → ((d : Option (Pass T Note Origin)) → get_or ps n d ≡ Some p) → (t : Turned Told w p q) → IsPassAt splits founds locks w n q
        → Adds splits (run_after founds) w n clock clock' (kept ps) (entries_in t.added) → IsWalkerOf splits founds locks w clock' (set ps n (Some q)) × Walked Told n w ps (set ps n (Some q))
    walks is count l had t new adds =
        let h = walks_by (entries_in t.added) adds is count l t new (own_after t ∙ ap (set (own_lists ps) n) (own_grows t had)) in
        (h.0, record { p = p; q = q; had = had; turned = t; after_is = refl; kept_is = h.1 })

module _ {T : Type 0} where
  -- a pass that made no entry, back in its place
  pub looks : (splits : List ℕ) (founds : List (List LogRecord)) (locks : List (TurnLock T Note Origin)) (n w clock : ℕ) (ps : List (Option (Pass T Note Origin))) (p q : Pass T Note Origin) → IsWalkerOf splits founds locks w clock ps → n < length locks
      → ((d : Option (Pass T Note Origin)) → get_or ps n d ≡ Some p) → IsPassAt splits founds locks w n q → own q ≡ own p → IsWalkerOf splits founds locks w clock (set ps n (Some q))
  looks splits founds locks n w clock ps p q is l had new own_is =
      let low : n < length (own_lists ps) = (let h = is.are_passes.count in let k = own_length ps in omega arith) in
      let same : own_lists (set ps n (Some q)) ≡ own_lists ps = map-set own_of ps n (Some q) ∙ ap (λ o. set (own_lists ps) n (entries_in o)) own_is ∙ set_same (own_lists ps) n (entries_in (own p)) low (at_own ps n p had) in
      let k : kept (set ps n (Some q)) ≡ kept ps = ap entries_of same in
      record {
        are_passes = still_passes splits founds locks n w ps q l is.are_passes new;
        keeps = subst (Rattle.journal_laws.specs.Walkers.WalkerKeeps splits (run_after founds) w) (sym k) is.keeps;
        in_time = subst (AllByRecursion (λ f. (f.1).stamp ≤ clock)) (sym k) is.in_time;
      }

-- ---- what an event adds

idle : (clock : ℕ) (r : Result Outcome StepError) → clock ≤ idle_clock clock r
idle clock (Ok o) = omega arith
idle clock (Err Memory) = omega arith
idle clock (Err (Worn at)) = omega arith

pub event_adds : (splits : List ℕ) (run w n clock clock' : ℕ) (es : History) (e : Event) (r : Result Outcome StepError) (s t : Shard) (added : List Note) → EventTold clock w e r clock' s t added → GoesOn splits run w es n e
    → Adds splits run w n clock clock' es (entries_in added)
event_adds splits run w n clock clock' es e r s t added h g = subst (λ l. Adds splits run w n clock clock' es (entries_in l)) (sym h.added_is) (by_made h.made h.tells h.clock_is)
  where
    by_made : (made : Option Entry) → Tells (step s clock w e) s clock w e r t made → clock' ≡ clock_after clock r made → Adds splits run w n clock clock' es (entries_in (map plain (listed made)))
    by_made None told is = none (let k = idle clock r in omega arith)
    by_made (Some x) told is =
        let d = from_does (next_stamp s clock e) w e (nat_lt (next_stamp s clock e) (2 ^ 48)) (happen s e) told.0 t told.2.enters in
        let same = told.2.entry_is in
        one x (above (step s clock w e) s clock w e told.0 t x told.2) (omega arith) (subst (λ y. is_session splits run w (es ++ (n, y) ∷ []) ≡ true) (sym same) (g.session s d.after (next_stamp s clock e) told.0 d.does))
        (subst (λ y. is_numbered w (n, y) ≡ true) (sym same) g.numbered) (subst (λ y. WasSent es y.event) (sym same) g.sent)

-- the clock never falls
pub event_rises : (clock w : ℕ) (e : Event) (r : Result Outcome StepError) (clock' : ℕ) (s t : Shard) (added : List Note) → EventTold clock w e r clock' s t added → clock ≤ clock'
event_rises clock w e r clock' s t added h = by_made h.made h.tells h.clock_is
  where
    by_made : (made : Option Entry) → Tells (step s clock w e) s clock w e r t made → clock' ≡ clock_after clock r made → clock ≤ clock'
    by_made None told is = (let k = idle clock r in omega arith)
    by_made (Some x) told is = (let k = above (step s clock w e) s clock w e told.0 t x told.2 in omega arith)

-- ---- a session's events

pub single_session : (e : Event) → is_of_session e ≡ true → is_single e ≡ true
single_session (Op tx birth nth seen op) h = refl
single_session (RollTo tx nth seen upto) h = refl
single_session (Request tx ts) h = refl
single_session (Look tx) h = refl
single_session (Drop tx) h = refl
single_session Send h = absurd (both_ways false refl h)
single_session (Deliver m stamp) h = absurd (both_ways false refl h)
single_session Remind h = absurd (both_ways false refl h)
single_session FlushOut h = absurd (both_ways false refl h)
single_session FlushIn h = absurd (both_ways false refl h)
single_session Stop h = absurd (both_ways false refl h)
single_session Restart h = absurd (both_ways false refl h)

no_message : (es : History) (e : Event) → is_of_session e ≡ true → WasSent es e
no_message es (Op tx birth nth seen op) h = tt
no_message es (RollTo tx nth seen upto) h = tt
no_message es (Request tx ts) h = tt
no_message es (Look tx) h = tt
no_message es (Drop tx) h = tt
no_message es Send h = tt
no_message es (Deliver m stamp) h = absurd (both_ways false refl h)
no_message es Remind h = tt
no_message es FlushOut h = tt
no_message es FlushIn h = tt
no_message es Stop h = tt
no_message es Restart h = tt

or_right : (a b : Bool) → b ≡ true → (not a || b) ≡ true
or_right true b h = h
or_right false b h = refl

pub session_goes_on : (splits : List ℕ) (run w : ℕ) (es : History) (n : ℕ) (e : Event) → may_make splits run w es n e ≡ true → is_of_session e ≡ true → is_session_number w ≡ true → GoesOn splits run w es n e
session_goes_on splits run w es n e may session number = record {
  session = λ s t stamp o h. each_outcome_goes_on splits run w es n (record { stamp = stamp; walker = w; event = e; outcome = o }) s t may h;
  numbered = or_right (is_of_session e) (is_session_number w) number;
  sent = no_message es e session;
}

-- ---- other events

pub other_goes_on : (splits : List ℕ) (run w : ℕ) (es : History) (n : ℕ) (e : Event) → is_session splits run w es ≡ true → is_of_session e ≡ false → WasSent es e → GoesOn splits run w es n e
other_goes_on splits run w es n e m h sent = record {
  session = λ s t stamp o d. others_keep_sessions splits run w es (n, entry stamp w e o) m h;
  numbered = ap (λ b. not b || is_session_number w) h;
  sent = sent;
}

pub made_adds : (splits : List ℕ) (run w n clock clock' : ℕ) (es : History) (e : Event) (answer : CallAnswer) (s t : Shard) (o : Outcome) (x : Entry) → IsMade answer s clock w e o t x → x.stamp ≤ clock' → is_session splits run w es ≡ true
    → is_of_session e ≡ false → WasSent es e → Adds splits run w n clock clock' es (x ∷ [])
made_adds splits run w n clock clock' es e answer s t o x h l m other sent =
    let is = h.entry_is in
    let event_is : x.event ≡ e = ap (λ y. y.event) is in
    one x (above answer s clock w e o t x h) l (others_keep_sessions splits run w es (n, x) m (ap is_of_session event_is ∙ other)) (ap (λ b. not b || is_session_number w) (ap is_of_session event_is ∙ other))
    (subst (WasSent es) (sym event_is) sent)

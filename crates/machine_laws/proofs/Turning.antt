-- What a walker may do after others had their turns, and the clock after a call.
use Rattle.std.proofs.Common.{◌≡◌, ℕ, ◌<◌, ◌^◌, true, false, ◌==◌, nat_lt, List, [], ◌++◌, map, length, drop, sym, ap, refl, ◌∙◌, subst, arith, Option, Some, None, Result}
use Rattle.std.proofs.lemmas.List.{map-append, drop_at}
use Rattle.std.proofs.lemmas.List.Elements.{All-cons, All-nil}
use Rattle.std.proofs.lemmas.Bool.Decides.{nat_tests}
use Rattle.clv_base.specs.declared.events.Event.{Event}
use Rattle.clv_base.specs.declared.events.Outcome.{Outcome}
use Rattle.clv_base.specs.declared.events.Entry.{Entry}
use Rattle.clv_base.specs.State.{Shard}
use Rattle.clv_base.specs.Events.{CallAnswer, Enters, next_stamp, step, message_stamp, happen}
use Rattle.turn_lock.specs.Journals.{GrownBy, GrownByOthers}
use Rattle.journal_laws.specs.Notes.{MayNotes, after_notes}
use Rattle.journal_laws.proofs.NotesAreRuns.{notes_are_seen}
use Rattle.machine_calls.specs.declared.machine.StepError.{StepError}
use Rattle.machine_calls.specs.Steps.{Made as IsMade, Tells, clock_by, clock_after, listed}
use Rattle.machine_laws.specs.declared.notes.Note.{Note}
use Rattle.machine_laws.specs.declared.notes.Origin.{Origin}
use Rattle.machine_laws.specs.Notes.{told, noter, plain}
use Rattle.machine_laws.specs.Homes.{start, state_of, holder_of, entries_in, ends_own, taker, all_named, is_named, IsFree, IsLegal}
use Rattle.machine_laws.specs.Gates.{StillFlies}
use Rattle.machine_laws.proofs.Legal.{from_does, entries_append}
use Rattle.machine_laws.proofs.Flying.{flight_stays, taker_append, ends_second, named_second}
use Rattle.machine_laws.proofs.Freeing.{free_stays}

-- ---- what others' turns leave

-- the state after what a pass has seen and what others noted since
pub record Since (o : Origin) (seen later : List Note) (s : Shard) : Type 0 where
  pub may_seen : MayNotes (start o) None (map told seen)
  pub may : MayNotes (state_of o seen) (holder_of seen) (map told later)
  pub is : s ≡ after_notes (state_of o seen) (map told later)
  pub ends : ends_own (taker None (entries_in seen)) (entries_in later) ≡ true
  pub named : all_named (entries_in later) ≡ true

pub since : (o : Origin) (seen later notes : List Note) (s : Shard) → IsLegal o notes s → notes ≡ seen ++ later → Since o seen later s
since o seen later notes s l is =
    let two : map told notes ≡ map told seen ++ map told later = ap (map told) is ∙ map-append told seen later in
    let q = notes_are_seen (start o) None (map told seen) (map told later) (subst (MayNotes (start o) None) two l.may) in
    let es : s.journal ≡ entries_in seen ++ entries_in later = l.entries ∙ ap entries_in is ∙ entries_append seen later in
    record {
      may_seen = q.0;
      may = q.1;
      is = l.is ∙ ap (after_notes (start o)) two ∙ q.2;
      ends = ends_second None (entries_in seen) (entries_in later) (subst (λ j. ends_own None j ≡ true) es l.own_ends);
      named = named_second (entries_in seen) (entries_in later) (subst (λ j. all_named j ≡ true) es l.named);
    }

-- a walker may still make an event that it might make as its pass had seen the shard
pub still_free : (o : Origin) (s : Shard) (w : ℕ) (e : Event) (seen notes : List Note) → IsLegal o notes s → GrownByOthers noter w seen notes → is_named w e ≡ true → IsFree (state_of o seen) e → IsFree s e
still_free o s w e seen notes l d named free =
    let q = since o seen d.0 notes s l d.1 in subst (λ u. IsFree u e) (sym q.is) (free_stays (state_of o seen) (holder_of seen) w e d.0 q.may named q.named d.2 free)

-- who took the gate finds its records in flight
pub still_flying : (o : Origin) (s u : Shard) (w upto : ℕ) (seen notes : List Note) → IsLegal o seen s → IsLegal o notes u → GrownByOthers noter w seen notes → s.is_up ≡ true → s.flight ≡ Some upto → s.last < 2 ^ 48
    → taker None s.journal ≡ Some w → StillFlies upto s u × (taker None u.journal ≡ Some w)
still_flying o s u w upto seen notes k l d up f early took =
    let q = since o seen d.0 notes u l d.1 in
    let same = k.is in
    let took2 : taker None (entries_in seen) ≡ Some w = ap (taker None) (sym k.entries) ∙ took in
    let r = flight_stays s (holder_of seen) w upto d.0 up f early (subst (λ x. MayNotes x (holder_of seen) (map told d.0)) (sym same) q.may) (subst (λ t. ends_own t (entries_in d.0) ≡ true) took2 q.ends) d.2 in
    let now : after_notes s (map told d.0) ≡ u = ap (λ x. after_notes x (map told d.0)) same ∙ sym q.is in (
      subst (StillFlies upto s) now r.0,
      ap (taker None) (l.entries ∙ ap entries_in d.1 ∙ entries_append seen d.0) ∙ taker_append None (entries_in seen) (entries_in d.0) ∙ ap (λ t. taker t (entries_in d.0)) took2 ∙ r.1,
    )

-- ---- the clock

made_last : (s : Shard) (clock w : ℕ) (e : Event) (o : Outcome) (t : Shard) → step s clock w e ≡ Enters o t → t.last ≡ next_stamp s clock e
made_last s clock w e o t h = ap (λ u. u.last) (from_does (next_stamp s clock e) w e (nat_lt (next_stamp s clock e) (2 ^ 48)) (happen s e) o t h).is

pub clock_is : (s : Shard) (clock w : ℕ) (e : Event) (r : Result Outcome StepError) (t : Shard) (made : Option Entry) → Tells (step s clock w e) s clock w e r t made → clock_by clock r s.last t.last ≡ clock_after clock r made
clock_is s clock w e r t (Some x) h =
    let last : t.last ≡ next_stamp s clock e = made_last s clock w e h.0 t h.2.enters in
    let stamp : x.stamp ≡ next_stamp s clock e = ap (λ y. y.stamp) h.2.entry_is in
    let apart : (t.last == s.last) ≡ false = (let m = message_stamp e in grind (arith, nat_tests)) in
    rw apart (last ∙ sym stamp)
clock_is s clock w e r t None h =
    let same : (t.last == s.last) ≡ true = (let k = ap (λ u. u.last) h.1 in grind (arith, nat_tests)) in
    rw same refl

-- an entry's stamp is past the clock, and the clock never falls
pub above : (answer : CallAnswer) (s : Shard) (clock w : ℕ) (e : Event) (o : Outcome) (t : Shard) (x : Entry) → IsMade answer s clock w e o t x → clock < x.stamp
above answer s clock w e o t x h = let k : x.stamp ≡ next_stamp s clock e = ap (λ y. y.stamp) h.entry_is in let m = message_stamp e in omega arith

-- ---- what a turn added

pub added_notes : (before : List Note) (after : List Note) (added : List Note) → after ≡ before ++ added → drop (length before) after ≡ added
added_notes before after added is = ap (drop (length before)) is ∙ drop_at before added (length before) refl

by_w : (w : ℕ) (x : Option Entry) → ((y : Entry) → x ≡ Some y → y.walker ≡ w) → (k : ℕ) (d : Note) → k < length (map plain (listed x)) → noter (Rattle.std.specs.Prelude.slice_index_or (map plain (listed x)) k d) ≡ w
by_w w None h k d l = absurd (omega arith)
by_w w (Some y) h k d l = All-cons (λ n. noter n ≡ w) (plain y) [] (h y refl) (All-nil (λ n. noter n ≡ w)) k d l

made_walker : (answer : CallAnswer) (s t : Shard) (clock w : ℕ) (e : Event) (r : Result Outcome StepError) (x : Option Entry) → Tells answer s clock w e r t x → (y : Entry) → x ≡ Some y → y.walker ≡ w
made_walker answer s t clock w e r None h y is = absurd cc
made_walker answer s t clock w e r (Some z) h y is = ap (λ v. v.walker) (sym (some_same is)) ∙ ap (λ v. v.walker) h.2.entry_is
  where
    some_same : {a b : Entry} → Some a ≡ Some b → a ≡ b
    some_same q = cc

pub grown_by : (answer : CallAnswer) (s t : Shard) (clock w : ℕ) (e : Event) (r : Result Outcome StepError) (x : Option Entry) (seen before after : List Note) (n : ℕ) → Tells answer s clock w e r t x → after ≡ before ++ map plain (listed x) → seen ≡ before → n ≡ w
    → GrownBy noter n seen after
grown_by answer s t clock w e r x seen before after n h is same num =
    (map plain (listed x), is ∙ ap (λ l. l ++ map plain (listed x)) (sym same), by_w n x (λ y q. made_walker answer s t clock w e r x h y q ∙ sym num))

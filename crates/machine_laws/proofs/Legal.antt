-- A shard's notes go on with each call.
use Rattle.std.proofs.Common.{◌≡◌, ℕ, ◌+◌, ◌<◌, ◌^◌, Bool, true, false, ◌==◌, nat_lt, List, [], ◌∷◌, ◌++◌, map, length, sym, ap, refl, ◌∙◌, subst, arith, Option, Some, None, Result, append-nil}
use Rattle.std.specs.Prelude.{⊤}
use Rattle.std.proofs.lemmas.List.{map-append, take_all}
use Rattle.std.proofs.lemmas.Bool.{and_from, and_parts, both_ways, ltb-true}
use Rattle.clv_base.specs.declared.logs.LogRecord.{LogRecord}
use Rattle.clv_base.specs.declared.events.Event.{Event}
use Rattle.clv_base.specs.declared.events.Event.TheVariants.{Op, RollTo, Request, Look, Drop, Send, Deliver, Remind, FlushOut, FlushIn, Stop, Restart}
use Rattle.clv_base.specs.declared.events.Outcome.{Outcome}
use Rattle.clv_base.specs.declared.events.Outcome.TheVariants.{Down, Up}
use Rattle.clv_base.specs.declared.events.Entry.{Entry}
use Rattle.clv_base.specs.declared.events.CoreStep.{CoreStep}
use Rattle.clv_base.specs.State.{Shard}
use Rattle.clv_base.specs.Core.{answer_by}
use Rattle.clv_base.specs.Restarts.{revived, log_left}
use Rattle.clv_base.specs.Events.{Reply, QuietBeforeWorn, QuietAfterWorn, Does, Enters, next_stamp, step, stamped, land, with_entry, happen, happen_up}
use Rattle.clv_base.specs.Journals.{stamp_bound, event_state, reply_state, after_entry, has_no_equal_active_birth}
use Rattle.clv_base.specs.Machines.{BecomesBy, Makes}
use Rattle.protocol_laws.proofs.LogOnlyGrows.DueGrowsLogs.{same}
use Rattle.journal_laws.proofs.SteadyIsLegal.AnsweredStepsMakeEntries.{Answers, answers, makes_entry}
use Rattle.journal_laws.proofs.RunsGoOn.{enters}
use Rattle.journal_laws.proofs.NotesAreRuns.{notes_go_on, notes_are_seen}
use Rattle.journal_laws.specs.Notes.{after_note, after_notes, RestartsByHolder, MayNote, MayNotes}
use Rattle.machine_calls.specs.declared.machine.StepError.{StepError}
use Rattle.machine_calls.specs.Steps.{entry, Made as IsMade, Tells, listed}
use Rattle.machine_calls.specs.Restored.{revives}
use Rattle.protocol_laws.proofs.RestartsLeadToOneLog.{misfit_is_exact}
use Rattle.clv_base.specs.Restarts.{misfit}
use Rattle.machine_laws.specs.declared.notes.Note.{Note}
use Rattle.machine_laws.specs.declared.notes.Note.TheVariants.{Made, Fetched}
use Rattle.machine_laws.specs.declared.notes.Origin.{Origin}
use Rattle.machine_laws.specs.Notes.{told, plain}
use Rattle.machine_laws.specs.Homes.{start, state_of, holder_of, entries_in, taker_after, taker, may_follow, ends_own, is_turned, is_named, all_named, IsFree, IsLegal}

-- ---- journals with one entry more

pub ends_append : (t : Option ℕ) (xs ys : List Entry) → ends_own t xs ≡ true → ends_own (taker t xs) ys ≡ true → ends_own t (xs ++ ys) ≡ true
ends_append t [] ys a b = b
ends_append t (x ∷ xs) ys a b =
    let p = and_parts (may_follow t x.walker x.event) (ends_own (taker_after t x.walker x.event) xs) a in
    and_from (may_follow t x.walker x.event) (ends_own (taker_after t x.walker x.event) (xs ++ ys)) p.0 (ends_append (taker_after t x.walker x.event) xs ys p.1 b)

named_append : (xs : List Entry) (x : Entry) → all_named xs ≡ true → is_named x.walker x.event ≡ true → all_named (xs ++ x ∷ []) ≡ true
named_append [] x a b = and_from (is_named x.walker x.event) true b refl
named_append (y ∷ ys) x a b =
    let p = and_parts (is_named y.walker y.event) (all_named ys) a in and_from (is_named y.walker y.event) (all_named (ys ++ x ∷ [])) p.0 (named_append ys x p.1 b)

-- ---- a note more

told_more : (notes : List Note) (n : Note) → map told (notes ++ n ∷ []) ≡ map told notes ++ told n ∷ []
told_more notes n = map-append told notes (n ∷ [])

pub entries_append : (xs ys : List Note) → entries_in (xs ++ ys) ≡ entries_in xs ++ entries_in ys
entries_append [] ys = refl
entries_append (Made e log ∷ xs) ys = ap (λ z. e ∷ z) (entries_append xs ys)
entries_append (Fetched w ∷ xs) ys = entries_append xs ys

may_more : (o : Origin) (notes : List Note) (s : Shard) (n : Note) → IsLegal o notes s → MayNote s (holder_of notes) (told n) → MayNotes (start o) None (map told notes ++ told n ∷ [])
may_more o notes s n l may = notes_go_on (start o) None (map told notes) (told n) l.may (subst (λ u. MayNote u (holder_of notes) (told n)) l.is may)

pub state_more : (o : Origin) (notes : List Note) (n : Note) → MayNotes (start o) None (map told notes ++ told n ∷ []) → state_of o (notes ++ n ∷ []) ≡ after_note (state_of o notes) (told n)
state_more o notes n m = ap (after_notes (start o)) (told_more notes n) ∙ (notes_are_seen (start o) None (map told notes) (told n ∷ []) m).2

pub legal_made : (o : Origin) (notes : List Note) (s t : Shard) (x : Entry) (log : List LogRecord) → IsLegal o notes s → Makes s x t → after_entry log s x ≡ t → RestartsByHolder (holder_of notes) x.walker x.event
    → t.journal ≡ s.journal ++ x ∷ [] → may_follow (taker None s.journal) x.walker x.event ≡ true → is_named x.walker x.event ≡ true → IsLegal o (notes ++ Made x log ∷ []) t
legal_made o notes s t x log l m is r jo own name =
    let may = may_more o notes s (Made x log) l (subst (Makes s x) (sym is) m, r) in
    record {
      may = subst (MayNotes (start o) None) (sym (told_more notes (Made x log))) may;
      is = sym is ∙ ap (λ u. after_entry log u x) l.is ∙ sym (state_more o notes (Made x log) may);
      entries = jo ∙ ap (λ z. z ++ x ∷ []) l.entries ∙ sym (entries_append notes (Made x log ∷ []));
      own_ends = subst (λ j. ends_own None j ≡ true) (sym jo) (ends_append None s.journal (x ∷ []) l.own_ends (and_from (may_follow (taker None s.journal) x.walker x.event) true own refl));
      named = subst (λ j. all_named j ≡ true) (sym jo) (named_append s.journal x l.named name);
    }

pub legal_fetched : (o : Origin) (notes : List Note) (s : Shard) (w : ℕ) → IsLegal o notes s → s.is_up ≡ false → holder_of notes ≡ None → IsLegal o (notes ++ Fetched w ∷ []) s
legal_fetched o notes s w l d h =
    let may = may_more o notes s (Fetched w) l (d, h) in
    record {
      may = subst (MayNotes (start o) None) (sym (told_more notes (Fetched w))) may;
      is = l.is ∙ sym (state_more o notes (Fetched w) may);
      entries = l.entries ∙ sym (entries_append notes (Fetched w ∷ []) ∙ append-nil (entries_in notes));
      own_ends = l.own_ends;
      named = l.named;
    }

-- ---- events that one turn makes

pub record Plain (e : Event) : Type 0 where
  pub call : (s : Shard) (clock : ℕ) (c : CoreStep) → answer_by clock c s e ≡ step s clock c.walker e
  pub bound : stamp_bound e ≡ 2 ^ 48
  pub follow : (t : Option ℕ) (w : ℕ) → may_follow t w e ≡ true
  pub held : (held : Option ℕ) (w : ℕ) → RestartsByHolder held w e
  pub state : (s t : Shard) (o : Outcome) → BecomesBy s e o t → event_state [] s e o ≡ t
  pub does : (s t : Shard) (o : Outcome) → BecomesBy s e o t → happen s e ≡ Does o t

happens : (s t : Shard) (e : Event) (o : Outcome) → happen s e ≡ Does o t → reply_state s (happen s e) ≡ t
happens s t e o h = ap (reply_state s) h

pub plainly : (e : Event) → is_turned e ≡ true → Plain e
plainly (Op tx birth nth seen op) h =
    record { call = λ s clock c. refl; bound = refl; follow = λ t w. refl; held = λ g w. tt; state = λ s t o b. happens s t (Op tx birth nth seen op) o b.1; does = λ s t o b. b.1 }
plainly (RollTo tx nth seen upto) h =
    record { call = λ s clock c. refl; bound = refl; follow = λ t w. refl; held = λ g w. tt; state = λ s t o b. happens s t (RollTo tx nth seen upto) o b; does = λ s t o b. b }
plainly (Request tx ts) h = record { call = λ s clock c. refl; bound = refl; follow = λ t w. refl; held = λ g w. tt; state = λ s t o b. happens s t (Request tx ts) o b; does = λ s t o b. b }
plainly (Look tx) h = record { call = λ s clock c. refl; bound = refl; follow = λ t w. refl; held = λ g w. tt; state = λ s t o b. happens s t (Look tx) o b; does = λ s t o b. b }
plainly (Drop tx) h = record { call = λ s clock c. refl; bound = refl; follow = λ t w. refl; held = λ g w. tt; state = λ s t o b. happens s t (Drop tx) o b; does = λ s t o b. b }
plainly Send h = record { call = λ s clock c. refl; bound = refl; follow = λ t w. refl; held = λ g w. tt; state = λ s t o b. happens s t Send o b; does = λ s t o b. b }
plainly (Deliver m stamp) h =
    record { call = λ s clock c. refl; bound = refl; follow = λ t w. refl; held = λ g w. tt; state = λ s t o b. happens s t (Deliver m stamp) o b; does = λ s t o b. b }
plainly Remind h = record { call = λ s clock c. refl; bound = refl; follow = λ t w. refl; held = λ g w. tt; state = λ s t o b. happens s t Remind o b; does = λ s t o b. b }
plainly FlushOut h = record { call = λ s clock c. refl; bound = refl; follow = λ t w. refl; held = λ g w. tt; state = λ s t o b. happens s t FlushOut o b; does = λ s t o b. b }
plainly FlushIn h = absurd (both_ways false refl h)
plainly Stop h = absurd (both_ways false refl h)
plainly Restart h = absurd (both_ways false refl h)

up_by : (s : Shard) (stamp w : ℕ) (e : Event) (room : Bool) (o : Outcome) (t : Shard) (b : Bool) → s.is_up ≡ b → stamped stamp w e room (elim b [ true ↦ happen_up s e | false ↦ QuietBeforeWorn Down ]) ≡ Enters o t → s.is_up ≡ true
up_by s stamp w e room o t true u h = u
up_by s stamp w e room o t false u h = absurd cc

-- an entry is made on a shard that is up
pub made_up : (s : Shard) (clock w : ℕ) (e : Event) (o : Outcome) (t : Shard) → step s clock w e ≡ Enters o t → s.is_up ≡ true
made_up s clock w e o t h = up_by s (next_stamp s clock e) w e (nat_lt (next_stamp s clock e) (2 ^ 48)) o t s.is_up refl h

-- what an entry was made of
pub record FromDoes (stamp w : ℕ) (e : Event) (room : Bool) (r : Reply) (o : Outcome) (t : Shard) : Type 0 where
  pub after : Shard
  pub does : r ≡ Does o after
  pub has_room : room ≡ true
  pub is : t ≡ with_entry stamp w e o after

pub from_does : (stamp w : ℕ) (e : Event) (room : Bool) (r : Reply) (o : Outcome) (t : Shard) → stamped stamp w e room r ≡ Enters o t → FromDoes stamp w e room r o t
from_does stamp w e true (Does p u) o t h =
    let same_outcome : p ≡ o = cc in let k : with_entry stamp w e p u ≡ t = cc in
    record { after = u; does = ap (λ q. Does q u) same_outcome; has_room = refl; is = sym k ∙ ap (λ q. with_entry stamp w e q u) same_outcome }
from_does stamp w e false (Does p u) o t h = absurd cc
from_does stamp w e true (QuietAfterWorn p) o t h = absurd cc
from_does stamp w e false (QuietAfterWorn p) o t h = absurd cc
from_does stamp w e room (QuietBeforeWorn p) o t h = absurd cc

abbrev core : ℕ → Event → Bool → CoreStep
core w e kept = record { walker = w; shard = 0; event = e; kept = kept }

-- by an answer, whose entry is x
pub makes_by : (s : Shard) (clock w : ℕ) (e : Event) (o : Outcome) (kept : Bool) (t : Shard) (x : Entry) → answer_by clock (core w e kept) s e ≡ Enters o t → has_no_equal_active_birth s e ≡ true
    → next_stamp s clock e < stamp_bound e → x ≡ entry (next_stamp s clock e) w e o → Answers s clock w e o t × Makes s x t
makes_by s clock w e o kept t x h b l is =
    let a = answers s clock (core w e kept) e o t h b in
    let m = makes_entry s clock (core w e kept) o t a l in
    let last : t.last ≡ next_stamp s clock e = ap (λ u. u.last) a.is in (a, subst (λ y. Makes s y t) (ap (λ n. entry n w e o) last ∙ sym is) m)

pub step_makes : (s : Shard) (clock w : ℕ) (e : Event) (o : Outcome) (t : Shard) (x : Entry) → IsMade (step s clock w e) s clock w e o t x → is_turned e ≡ true → IsFree s e → Answers s clock w e o t × Makes s x t
step_makes s clock w e o t x h turned free =
    let p = plainly e turned in
    let d = from_does (next_stamp s clock e) w e (nat_lt (next_stamp s clock e) (2 ^ 48)) (happen s e) o t h.enters in
    let below : next_stamp s clock e < 2 ^ 48 = ltb-true (next_stamp s clock e) (2 ^ 48) d.has_room in
    makes_by s clock w e o true t x (p.call s clock (core w e true) ∙ h.enters) (free (made_up s clock w e o t h.enters)) (subst (λ n. next_stamp s clock e < n) (sym p.bound) below) h.entry_is

-- the entry alone tells the state after it
state_plain : (s t : Shard) (clock w : ℕ) (e : Event) (o : Outcome) (x : Entry) → Answers s clock w e o t → x ≡ entry (next_stamp s clock e) w e o → (BecomesBy s e o t → ⊤) → ((u : Shard) → BecomesBy s e o u → event_state [] s e o ≡ u) → after_entry [] s x ≡ t
state_plain s t clock w e o x a is z k = ap (after_entry [] s) is ∙ ap (with_entry (next_stamp s clock e) w e o) (k a.after a.becomes) ∙ sym a.is

pub legal_step : (g : Origin) (notes : List Note) (s : Shard) (clock w : ℕ) (e : Event) (r : Result Outcome StepError) (t : Shard) (x : Option Entry) → IsLegal g notes s → Tells (step s clock w e) s clock w e r t x
    → is_turned e ≡ true → IsFree s e → is_named w e ≡ true → IsLegal g (notes ++ map plain (listed x)) t
legal_step g notes s clock w e r t None l h turned free named = subst (λ u. IsLegal g (notes ++ []) u) (sym h.1) (subst (λ n. IsLegal g n s) (sym (append-nil notes)) l)
legal_step g notes s clock w e r t (Some x) l h turned free named =
    let p = plainly e turned in
    let m = step_makes s clock w e h.0 t x h.2 turned free in
    let is = h.2.entry_is in
    let walker_is : x.walker ≡ w = ap (λ y. y.walker) is in
    let event_is : x.event ≡ e = ap (λ y. y.event) is in
    legal_made g notes s t x [] l m.1 (state_plain s t clock w e h.0 x m.0 is (λ z. tt) (λ u b. p.state s u h.0 b)) (subst (λ v. RestartsByHolder (holder_of notes) x.walker v) (sym event_is) (p.held (holder_of notes) x.walker))
    h.2.journal (subst (λ v. may_follow (taker None s.journal) x.walker v ≡ true) (sym event_is) (p.follow (taker None s.journal) x.walker))
    (subst (λ v. is_named x.walker v ≡ true) (sym event_is) (subst (λ v. is_named v e ≡ true) (sym walker_is) named))

-- ---- the end of a flush

pub land_makes : (s : Shard) (clock w : ℕ) (pushed : Bool) (o : Outcome) (t : Shard) (x : Entry) → IsMade (land s clock w pushed) s clock w FlushIn o t x → s.last < 2 ^ 48 → clock < 2 ^ 48 + 15 → Answers s clock w FlushIn o t × Makes s x t
land_makes s clock w pushed o t x h early low = makes_by s clock w FlushIn o pushed t x h.enters refl (omega arith) h.entry_is

pub legal_land : (g : Origin) (notes : List Note) (s : Shard) (clock w : ℕ) (pushed : Bool) (o : Outcome) (t : Shard) (x : Entry) → IsLegal g notes s → IsMade (land s clock w pushed) s clock w FlushIn o t x
    → s.last < 2 ^ 48 → clock < 2 ^ 48 + 15 → taker None s.journal ≡ Some w → IsLegal g (notes ++ plain x ∷ []) t
legal_land g notes s clock w pushed o t x l h early low taken =
    let m = land_makes s clock w pushed o t x h early low in
    let is = h.entry_is in
    let walker_is : x.walker ≡ w = ap (λ y. y.walker) is in
    let event_is : x.event ≡ FlushIn = ap (λ y. y.event) is in
    legal_made g notes s t x [] l m.1 (state_plain s t clock w FlushIn o x m.0 is (λ z. tt) (λ u b. sym b.2)) (subst (λ v. RestartsByHolder (holder_of notes) x.walker v) (sym event_is) tt)
    h.journal (subst (λ v. may_follow (taker None s.journal) x.walker v ≡ true) (sym event_is) (ap (λ v. may_follow v x.walker FlushIn) taken ∙ ap (λ v. w == v) walker_is ∙ self w))
    (subst (λ v. is_named x.walker v ≡ true) (sym event_is) refl)
  where
    self : (n : ℕ) → (n == n) ≡ true
    self n = Rattle.std.proofs.lemmas.Bool.eq-eqb n n refl

-- ---- a restart

pub restart_makes : (s : Shard) (clock w epoch : ℕ) (log : List LogRecord) (o : Outcome) (t : Shard) (x : Entry) → IsMade (revives s clock w epoch log) s clock w Restart o t x → s.is_up ≡ false → misfit s log epoch ≡ None
    → Makes s x t × (after_entry log s x ≡ t)
restart_makes s clock w epoch log o t x h d fits =
    let stamp = next_stamp s clock Restart in
    let f = from_does stamp w Restart (nat_lt stamp (2 ^ 48)) (Does (Up epoch) (revived s epoch log)) o t h.enters in
    let below : stamp < 2 ^ 48 = ltb-true stamp (2 ^ 48) f.has_room in
    let r = (misfit_is_exact s log epoch).0 fits in
    let is_after : revived s epoch log ≡ f.after = does_after f.does in
    let is_up : Up epoch ≡ o = does_outcome f.does in
    let m : Makes s (entry stamp w Restart o) t = record {
      state = f.after;
      becomes = (d, (r.0, epoch, log, r.1, sym is_up, sym is_after));
      entered = f.is;
      rises = omega arith;
      above_message = omega arith;
      bounded = below;
    } in
    let mx : Makes s x t = subst (λ y. Makes s y t) (sym h.entry_is) m in
    let front : log_left t false ≡ log = ap (λ u. log_left u false) (f.is ∙ ap (with_entry stamp w Restart o) (sym is_after)) ∙ take_all (length log) log (omega arith) in
    (mx, (enters log s x t mx (subst (λ z. Rattle.protocol_laws.specs.Growth.IsPrefixOf z log) (sym front) (same log))).state)
  where
    does_outcome : {p q : Outcome} {u v : Shard} → Does p u ≡ Does q v → p ≡ q
    does_outcome e = cc

    does_after : {p q : Outcome} {u v : Shard} → Does p u ≡ Does q v → u ≡ v
    does_after e = cc

pub legal_restart : (g : Origin) (notes : List Note) (s : Shard) (clock w epoch : ℕ) (log : List LogRecord) (o : Outcome) (t : Shard) (x : Entry) → IsLegal g notes s → IsMade (revives s clock w epoch log) s clock w Restart o t x
    → s.is_up ≡ false → misfit s log epoch ≡ None → holder_of notes ≡ Some w → IsLegal g (notes ++ Made x log ∷ []) t
legal_restart g notes s clock w epoch log o t x l h d fits held =
    let m = restart_makes s clock w epoch log o t x h d fits in
    let is = h.entry_is in
    let walker_is : x.walker ≡ w = ap (λ y. y.walker) is in
    let event_is : x.event ≡ Restart = ap (λ y. y.event) is in
    legal_made g notes s t x log l m.0 m.1 (subst (λ v. RestartsByHolder (holder_of notes) x.walker v) (sym event_is) (held ∙ ap (λ v. Some v) (sym walker_is)))
    h.journal (subst (λ v. may_follow (taker None s.journal) x.walker v ≡ true) (sym event_is) refl) (subst (λ v. is_named x.walker v ≡ true) (sym event_is) refl)

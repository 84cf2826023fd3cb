-- While another walker's flush is under way.
use Rattle.std.proofs.Common.{◌≡◌, ◌<◌, ◌^◌, ℕ, Bool, true, false, ◌==◌, List, [], ◌∷◌, ◌++◌, map, Option, Some, None, sym, ap, refl, ◌∙◌, subst, arith}
use Rattle.std.proofs.lemmas.Bool.{both_ways, and_parts, eq-eqb, eqb-true}
use Rattle.clv_base.specs.declared.events.Event.{Event}
use Rattle.clv_base.specs.declared.events.Event.TheVariants.{Op, RollTo, Request, Look, Drop, Send, Deliver, Remind, FlushOut, FlushIn, Stop, Restart}
use Rattle.clv_base.specs.declared.events.Outcome.{Outcome}
use Rattle.clv_base.specs.declared.events.Entry.{Entry}
use Rattle.clv_base.specs.State.{Shard}
use Rattle.clv_base.specs.Journals.{after_entry}
use Rattle.clv_base.specs.Machines.{BecomesBy, Makes}
use Rattle.protocol_laws.proofs.LogOnlyGrows.DueGrowsLogs.{same, chain}
use Rattle.turn_lock.specs.Journals.{entries_by}
use Rattle.journal_laws.specs.Notes.{after_notes, MayNotes}
use Rattle.machine_laws.specs.declared.notes.Note.{Note}
use Rattle.machine_laws.specs.declared.notes.Note.TheVariants.{Made, Fetched}
use Rattle.machine_laws.specs.Notes.{noter, told}
use Rattle.machine_laws.specs.Homes.{entries_in, taker_after, taker, is_failed, has_failed, may_follow, ends_own, is_named, all_named}
use Rattle.machine_laws.specs.Gates.{StillFlies}
use Rattle.machine_laws.proofs.Calm.{Calm, does_calm, Keeps, does_keep, does_fly, failed_append}

-- ---- one entry of another walker, while records are in flight

pub record Passes (e : Event) (o : Outcome) (s t : Shard) : Type 0 where
  pub calm : Calm e o s t
  pub keeps : Keeps s t

none_some : {n : ℕ} {X : Type 0} → ◌≡◌ {A = Option ℕ} None (Some n) → X
none_some h = cc

becomes_calm : (w n u : ℕ) (s t : Shard) (e : Event) (o : Outcome) → BecomesBy s e o t → s.is_up ≡ true → s.flight ≡ Some n → may_follow (Some w) u e ≡ true → (u == w) ≡ false → Passes e o s t
becomes_calm w n u s t FlushIn o b up f m d = absurd (both_ways (u == w) d (eq-eqb u w (sym (eqb-true w u m))))
becomes_calm w n u s t Stop o b up f m d = absurd (both_ways false refl m)
becomes_calm w n u s t Restart o b up f m d = absurd (both_ways s.is_up b.0 up)
becomes_calm w n u s t FlushOut o b up f m d = none_some (sym (does_fly s t o b).was ∙ f)
becomes_calm w n u s t (Op tx birth nth seen op) o b up f m d = record { calm = does_calm s t (Op tx birth nth seen op) o b.1 refl refl; keeps = does_keep s t (Op tx birth nth seen op) o b.1 }
becomes_calm w n u s t (RollTo tx nth seen upto) o b up f m d = record { calm = does_calm s t (RollTo tx nth seen upto) o b refl refl; keeps = does_keep s t (RollTo tx nth seen upto) o b }
becomes_calm w n u s t (Request tx ts) o b up f m d = record { calm = does_calm s t (Request tx ts) o b refl refl; keeps = does_keep s t (Request tx ts) o b }
becomes_calm w n u s t (Look tx) o b up f m d = record { calm = does_calm s t (Look tx) o b refl refl; keeps = does_keep s t (Look tx) o b }
becomes_calm w n u s t (Drop tx) o b up f m d = record { calm = does_calm s t (Drop tx) o b refl refl; keeps = does_keep s t (Drop tx) o b }
becomes_calm w n u s t Send o b up f m d = record { calm = does_calm s t Send o b refl refl; keeps = does_keep s t Send o b }
becomes_calm w n u s t (Deliver x stamp) o b up f m d = record { calm = does_calm s t (Deliver x stamp) o b refl refl; keeps = does_keep s t (Deliver x stamp) o b }
becomes_calm w n u s t Remind o b up f m d = record { calm = does_calm s t Remind o b refl refl; keeps = does_keep s t Remind o b }

-- ---- notes of others

pub other_first : (w : ℕ) (n : Note) (ns : List Note) (b : Bool) → (noter n == w) ≡ b → entries_by noter w (n ∷ ns) ≡ [] → ((noter n == w) ≡ false) × (entries_by noter w ns ≡ [])
other_first w n ns true is h = absurd (let k : n ∷ entries_by noter w ns ≡ [] = rw is at h in cc)
other_first w n ns false is h = (is, rw is at h)

still_flies : (w upto : ℕ) (s t : Shard) (e : Entry) → Makes s e t → s.is_up ≡ true → s.flight ≡ Some upto → may_follow (Some w) e.walker e.event ≡ true → (e.walker == w) ≡ false
    → StillFlies upto s t × (taker_after (Some w) e.walker e.event ≡ Some w)
still_flies w upto s t e m up f own d =
    let p = becomes_calm w upto e.walker s m.state e.event e.outcome m.becomes up f own d in
    let is = m.entered in (
      record {
        shard = ap (λ u. u.shard) is ∙ p.keeps.shard;
        is_up = ap (λ u. u.is_up) is ∙ p.calm.is_up ∙ up;
        flight = ap (λ u. u.flight) is ∙ p.calm.flight ∙ f;
        durable = ap (λ u. u.durable) is ∙ p.keeps.durable;
        log = (p.keeps.grown.0, p.keeps.grown.1 ∙ ap (λ u. u.local.log) (sym is));
        failed = ap has_failed (ap (λ u. u.journal) is) ∙ failed_append m.state.journal e ∙ or_none (has_failed m.state.journal) (is_failed e.outcome) p.calm.fine ∙ ap has_failed p.keeps.journal;
        early = (let last = ap (λ u. u.last) is in let b = p.calm.bound in let low = m.bounded in omega arith);
      },
      p.calm.takes (Some w) e.walker,
    )
  where
    or_none : (a b : Bool) → b ≡ false → Rattle.std.specs.Prelude.◌||◌ a b ≡ a
    or_none true b h = refl
    or_none false b h = h

-- what a walker's flush finds as it ends: others had their turns
pub flight_stays : (s : Shard) (held : Option ℕ) (w upto : ℕ) (later : List Note) → s.is_up ≡ true → s.flight ≡ Some upto → s.last < 2 ^ 48 → MayNotes s held (map told later) → ends_own (Some w) (entries_in later) ≡ true
    → entries_by noter w later ≡ [] → StillFlies upto s (after_notes s (map told later)) × (taker (Some w) (entries_in later) ≡ Some w)
flight_stays s held w upto [] up f early may own none = (record { shard = refl; is_up = up; flight = f; durable = refl; log = same s.local.log; failed = refl; early = early }, refl)
flight_stays s held w upto (Fetched v ∷ ns) up f early may own none = absurd (both_ways s.is_up (may.0).0 up)
flight_stays s held w upto (Made e log ∷ ns) up f early may own none =
    let first = other_first w (Made e log) ns (e.walker == w) refl none in
    let q = and_parts (may_follow (Some w) e.walker e.event) (ends_own (taker_after (Some w) e.walker e.event) (entries_in ns)) own in
    let p = still_flies w upto s (after_entry log s e) e (may.0).0 up f q.0 first.0 in
    let own2 : ends_own (Some w) (entries_in ns) ≡ true = subst (λ t. ends_own t (entries_in ns) ≡ true) p.1 q.1 in
    let r = flight_stays (after_entry log s e) _ w upto ns p.0.is_up p.0.flight p.0.early may.1 own2 first.1 in (
      record { shard = r.0.shard ∙ p.0.shard; is_up = r.0.is_up; flight = r.0.flight; durable = r.0.durable ∙ p.0.durable; log = chain _ _ _ p.0.log r.0.log; failed = r.0.failed ∙ p.0.failed; early = r.0.early },
      ap (λ t. taker t (entries_in ns)) p.1 ∙ r.1,
    )

-- a journal in two parts
pub taker_append : (t : Option ℕ) (xs ys : List Entry) → taker t (xs ++ ys) ≡ taker (taker t xs) ys
taker_append t [] ys = refl
taker_append t (x ∷ xs) ys = taker_append (taker_after t x.walker x.event) xs ys

pub ends_second : (t : Option ℕ) (xs ys : List Entry) → ends_own t (xs ++ ys) ≡ true → ends_own (taker t xs) ys ≡ true
ends_second t [] ys h = h
ends_second t (x ∷ xs) ys h = ends_second (taker_after t x.walker x.event) xs ys (and_parts (may_follow t x.walker x.event) (ends_own (taker_after t x.walker x.event) (xs ++ ys)) h).1

pub named_second : (xs ys : List Entry) → all_named (xs ++ ys) ≡ true → all_named ys ≡ true
named_second [] ys h = h
named_second (x ∷ xs) ys h = named_second xs ys (and_parts (is_named x.walker x.event) (all_named (xs ++ ys)) h).1

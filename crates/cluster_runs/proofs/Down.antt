-- A shard that is neither stopped nor restarted is down exactly where a flush has failed.
use Rattle.std.proofs.Common.{◌≡◌, refl, sym, ap, ◌∙◌, subst, ℕ, ◌<◌, Bool, true, false, List, [], ◌∷◌, ◌||◌, ◌&&◌, Option, Some, None, arith}
use Rattle.std.specs.Prelude.{not}
use Rattle.std.proofs.lemmas.Bool.{both_ways, and_parts}
use Rattle.clv_base.specs.declared.events.Event.{Event}
use Rattle.clv_base.specs.declared.events.Event.TheVariants.{Op, RollTo, Request, Look, Drop, Send, Deliver, Remind, FlushOut, FlushIn, Stop, Restart}
use Rattle.clv_base.specs.declared.events.Outcome.{Outcome}
use Rattle.clv_base.specs.declared.events.Outcome.TheVariants.{Durable, Failed}
use Rattle.clv_base.specs.declared.events.Entry.{Entry}
use Rattle.clv_base.specs.Shards.{shard_count}
use Rattle.clv_base.specs.State.{Shard}
use Rattle.clv_base.specs.Events.{with_durable}
use Rattle.clv_base.specs.Journals.{History, FlushMay, flush_state, start_of}
use Rattle.clv_base.specs.Machines.{BecomesBy, Runs}
use Rattle.io_model.specs.Sides.{Stories}
use Rattle.io_model.specs.Disk.{Rose}
use Rattle.history_replay.specs.Entries.{Kept}
use Rattle.protocol_laws.specs.Growth.{is_restart}
use Rattle.history_cases.proofs.Durability.{framed_finish}
use Rattle.journal_laws.specs.Gathered.{journal_at}
use Rattle.journal_laws.specs.Notes.{ends_holding}
use Rattle.machine_laws.specs.Homes.{has_failed, is_failed, is_stop}
use Rattle.machine_laws.proofs.Laws.{does_calm, does_fly, Calm, down_restarts}
use Rattle.cluster_runs.specs.Disks.{flush_after, flush_failed_from}
use Rattle.cluster_runs.specs.Ended.{ClusterEnded, runs_on}
use Rattle.cluster_runs.specs.Down.{FailedAreDown, DownStays, IsLowestDown, IsLowestFault, LowestDownIsFault}
use Rattle.law_base.proofs.Bools.{not_true as not_so}

-- ---- one entry

restarts : (e : Event) → ends_holding e ≡ true → is_restart e ≡ true
restarts Restart h = refl
restarts (Op u b nth seen op) h = h
restarts (RollTo u nth seen upto) h = h
restarts (Request u ts) h = h
restarts (Look u) h = h
restarts (Drop u) h = h
restarts Send h = h
restarts (Deliver m stamp) h = h
restarts Remind h = h
restarts FlushOut h = h
restarts FlushIn h = h
restarts Stop h = h

-- a shard that is up and makes it is down then exactly where it is a failed flush
record Leads (s t : Shard) (e : Event) (o : Outcome) : Type 0 where
  is_up : t.is_up ≡ not (is_failed o)
  flush : flush_after false e o ≡ is_failed o

calmly : (s t : Shard) (e : Event) (o : Outcome) → s.is_up ≡ true → Calm e o s t → flush_after false e o ≡ false → Leads s t e o
calmly s t e o up c same = record { is_up = c.is_up ∙ up ∙ ap not (sym c.fine); flush = same ∙ sym c.fine }

lands : (s t : Shard) (o : Outcome) → s.is_up ≡ true → FlushMay s o → t ≡ flush_state s o → Leads s t FlushIn o
lands s t (Durable n) up may is = record { is_up = ap (λ u. u.is_up) is ∙ (framed_finish (with_durable n s)).is_up ∙ up; flush = refl }
lands s t Failed up may is = record { is_up = ap (λ u. u.is_up) is; flush = refl }
lands s t _ up may is = absurd may

leads : (s t : Shard) (e : Event) (o : Outcome) → BecomesBy s e o t → s.is_up ≡ true → is_stop e ≡ false → is_restart e ≡ false → Leads s t e o
leads s t FlushIn o b up n r = lands s t o up b.1 b.2
leads s t Restart o b up n r = absurd (both_ways true r refl)
leads s t Stop o b up n r = absurd (both_ways true n refl)
leads s t FlushOut o b up n r =
    let f = does_fly s t o b in
    let fine : is_failed o ≡ false = ap is_failed f.outcome in
    record { is_up = f.is_up ∙ ap not (sym fine); flush = sym fine }
leads s t (Op tx birth nth seen op) o b up n r = calmly s t (Op tx birth nth seen op) o up (does_calm s t (Op tx birth nth seen op) o b.1 refl refl) refl
leads s t (RollTo tx nth seen upto) o b up n r = calmly s t (RollTo tx nth seen upto) o up (does_calm s t (RollTo tx nth seen upto) o b refl refl) refl
leads s t (Request tx ts) o b up n r = calmly s t (Request tx ts) o up (does_calm s t (Request tx ts) o b refl refl) refl
leads s t (Look tx) o b up n r = calmly s t (Look tx) o up (does_calm s t (Look tx) o b refl refl) refl
leads s t (Drop tx) o b up n r = calmly s t (Drop tx) o up (does_calm s t (Drop tx) o b refl refl) refl
leads s t Send o b up n r = calmly s t Send o up (does_calm s t Send o b refl refl) refl
leads s t (Deliver x stamp) o b up n r = calmly s t (Deliver x stamp) o up (does_calm s t (Deliver x stamp) o b refl refl) refl
leads s t Remind o b up n r = calmly s t Remind o up (does_calm s t Remind o b refl refl) refl

-- ---- entries

record First (e : Entry) (es : List Entry) : Type 0 where
  no_stop : is_stop e.event ≡ false
  no_restart : is_restart e.event ≡ false
  rest : runs_on es ≡ true

first : (e : Entry) (es : List Entry) → runs_on (e ∷ es) ≡ true → First e es
first e es on =
    let p = and_parts (not (is_stop e.event) && not (is_restart e.event)) (runs_on es) on in
    let q = and_parts (not (is_stop e.event)) (not (is_restart e.event)) p.0 in
    record { no_stop = not_so (is_stop e.event) q.0; no_restart = not_so (is_restart e.event) q.1; rest = p.1 }

-- a shard that is down makes none
rests : (s t : Shard) (es : List Entry) → Runs s es t → runs_on es ≡ true → s.is_up ≡ false → es ≡ []
rests s t [] runs on down = refl
rests s t (e ∷ es) (u, m, more) on down = absurd (both_ways (is_restart e.event) (first e es on).no_restart (restarts e.event (down_restarts s e.event e.outcome m.state down m.becomes)))

ends_there : (s t : Shard) (es : List Entry) → Runs s es t → es ≡ [] → s ≡ t
ends_there s t es runs none = subst (λ l. Runs s l t) none runs

record Fallen (es : List Entry) (t : Shard) : Type 0 where
  failed : has_failed es ≡ not t.is_up
  flush : flush_failed_from false es ≡ not t.is_up

falls : (s t : Shard) (es : List Entry) → Runs s es t → runs_on es ≡ true → s.is_up ≡ true → Fallen es t
falls s t [] same on up = let is : false ≡ not t.is_up = ap not (sym up ∙ ap (λ u. u.is_up) same) in record { failed = is; flush = is }
falls s t (e ∷ es) (u, m, more) on up =
    let f = first e es on in
    let l = leads s m.state e.event e.outcome m.becomes up f.no_stop f.no_restart in
    by (is_failed e.outcome) refl (ap (λ v. v.is_up) m.entered ∙ l.is_up) l.flush f.rest (falls u t es more f.rest)
  where
    by :
        (b : Bool) → is_failed e.outcome ≡ b → u.is_up ≡ not (is_failed e.outcome) → flush_after false e.event e.outcome ≡ is_failed e.outcome → runs_on es ≡ true → (u.is_up ≡ true → Fallen es t)
        → Fallen (e ∷ es) t
    by false is up' flush rest later =
        let i = later (up' ∙ ap not is) in
        record { failed = ap (λ b. b || has_failed es) is ∙ i.failed; flush = ap (λ b. flush_failed_from b es) (flush ∙ is) ∙ i.flush }
    by true is up' flush rest later =
        let none = rests u t es more rest (up' ∙ ap not is) in
        let down : t.is_up ≡ false = ap (λ v. v.is_up) (sym (ends_there u t es more none)) ∙ up' ∙ ap not is in
        record {
          failed = ap (λ b. b || has_failed es) is ∙ ap not (sym down);
          flush = ap (λ b. flush_failed_from b es) (flush ∙ is) ∙ ap (flush_failed_from true) none ∙ ap not (sym down);
        }

pub failed_are_down : FailedAreDown
failed_are_down n run found journal s runs on = let f = falls _ s journal runs on refl in (f.failed, f.flush)

pub down_stays : DownStays
down_stays s t more runs on down = ap (λ u. u.is_up) (sym (ends_there s t more runs (rests s t more runs on down))) ∙ down

-- ---- what the disks counted

module _
    (splits : List ℕ) (before now : ℕ → Option Stories) (counts counts_now : ℕ → ℕ) (kept : Kept) (states : ℕ → Shard) (own_of : ℕ → History) (ended : ClusterEnded splits before now counts counts_now kept states own_of) where
  stands_up : (n : ℕ) → n < shard_count splits → (states n).is_up ≡ true → counts_now n ≡ counts n
  stands_up n l up = ended.stands n l ((falls (start_of kept.found n) (states n) (journal_at kept.journals n) (ended.runs n l) (ended.on n l) refl).failed ∙ ap not up)

  rose_down : (n : ℕ) → n < shard_count splits → (states n).is_up ≡ false → Rose (counts n) (counts_now n)
  rose_down n l down = ended.rose n l ((falls (start_of kept.found n) (states n) (journal_at kept.journals n) (ended.runs n l) (ended.on n l) refl).failed ∙ ap not down)

  pub lowest : (down : Option ℕ) → IsLowestDown states (shard_count splits) down → IsLowestFault counts counts_now (shard_count splits) down
  lowest None all = λ n l. stands_up n l (all n l)
  lowest (Some m) (l, down, below) = (l, rose_down m l down, λ n low. stands_up n (omega arith) (below n low))

pub lowest_down_is_fault : LowestDownIsFault
lowest_down_is_fault splits before now counts counts_now kept states own_of down ended is = lowest splits before now counts counts_now kept states own_of ended down is

-- The start of a flush.
use Rattle.std.proofs.Common.{◌≡◌, refl, sym, ◌∙◌, ap, subst, ℕ, zero, suc, ◌+◌, ◌-◌, ◌≤◌, ◌<◌, Bool, false, [], ◌∷◌, ◌++◌, drop, take, length, Option, Some, None, is_some, is_none, unwrap_or, length-drop, arith}
use Rattle.std.proofs.lemmas.List.{drop-take}
use Rattle.clv_base.specs.declared.events.Event.TheVariants.{FlushOut}
use Rattle.clv_base.specs.declared.events.Outcome.TheVariants.{Out}
use Rattle.clv_base.specs.declared.events.Entry.{Entry}
use Rattle.clv_base.specs.Logs.{fitting}
use Rattle.clv_base.specs.State.{Shard, with_local}
use Rattle.clv_base.specs.OneShard.{purge}
use Rattle.clv_base.specs.Events.{Does, finish, with_flight, taken, out_event, happen_up}
use Rattle.log_buffer.proofs.Laws.{few_fit}
use Rattle.machine_calls.specs.Flights.{flying}
use Rattle.protocol_laws.specs.Candidates.{Cover}
use Rattle.protocol_laws.proofs.Laws.{nobody_is_touched, cover_grows, none_is_nothing, nothing_to_do}
use Rattle.shard_core.specs.Core.{Core}
use Rattle.shard_core.specs.Whole.{IsAtRest}
use Rattle.shard_machine.specs.Journaled.{Journaled}
use Rattle.machine_laws.specs.Fitting.{IsNamed}
use Rattle.shard_machine.specs.Machined.{IsRunning}
use Rattle.shard_machine.specs.Stamps.{newest, stamp_by}
use Rattle.shard_machine.proofs.Running.{noted}

-- how many records the next batch has
abbrev pub next_count : Shard → ℕ
next_count s = fitting 1048576 (drop (taken s) s.local.log)

-- ---- the next batch

-- where nothing flies it begins behind what is durable, and ends within the log
taken_none : (s : Shard) → s.flight ≡ None → taken s ≡ s.durable
taken_none s none = ap (λ f. unwrap_or f s.durable) none

pub next_flies : (s : Shard) → s.flight ≡ None → flying s (s.durable + next_count s) ≡ take (next_count s) (drop (taken s) s.local.log)
next_flies s none = drop-take s.durable (next_count s) s.local.log ∙ ap (λ n. take (next_count s) (drop n s.local.log)) (sym (taken_none s none))

pub next_ends : (s : Shard) → s.flight ≡ None → 0 < next_count s → s.durable + next_count s ≤ length s.local.log
next_ends s none some =
    let few : next_count s ≤ length (drop (taken s) s.local.log) = few_fit 1048576 (drop (taken s) s.local.log) in let cut : length (drop (taken s) s.local.log) ≡ length s.local.log - taken s = length-drop (taken s) s.local.log in
    let from : taken s ≡ s.durable = taken_none s none in omega (arith, few, cut, from, some)

-- ---- what the start of a flush comes to

pub departs : (s : Shard) → s.flight ≡ None → 0 < next_count s → happen_up s FlushOut ≡ Does (Out (s.durable + next_count s)) (finish (with_flight (s.durable + next_count s) s))
departs s none some = at s.flight (next_count s) none some
  where
    at : (f : Option ℕ) (k : ℕ) → f ≡ None → 0 < k → out_event s f k ≡ Does (Out (s.durable + k)) (finish (with_flight (s.durable + k) s))
    at None (suc k) e h = refl
    at None zero e h = absurd (omega (arith, h))
    at (Some n) k e h = absurd cc

-- ---- what it leaves

-- at rest nothing becomes due
pub flown : (c : Core) (n : ℕ) → IsAtRest c → finish (with_flight n c.shard) ≡ with_flight n c.shard
flown c n r =
    let s : Shard = c.shard in let cover : Cover [] (with_flight n s) = cover_grows [] [] s (with_flight n s) (nobody_is_touched.2 s n) r.ready.cover in
    ap (with_local purge) (nothing_to_do (with_flight n s) (none_is_nothing (with_flight n s) cover)) ∙ ap (with_flight n) r.ready.purged

-- what holds of the machine's parts
pub kept_flown : (c d : Core) (is_up : Bool) (l clock n m : ℕ) (j k : Journaled) (has : Bool) (x : Entry) → d.shard ≡ finish (with_flight m c.shard) → IsAtRest d → k.shard ≡ j.shard → k.entries ≡ j.entries ++ x ∷ [] → stamp_by (newest l clock 0) ≡ Some n
    → IsRunning c is_up l j has → IsRunning d is_up n k false
kept_flown c d is_up l clock n m j k has x left rest same grown stamp r =
    let s : Shard = c.shard in let is : d.shard ≡ with_flight m s = left ∙ flown c m r.rest in
    let f = r.named.fitting in let named : IsNamed (with_flight m s) = record { fitting = record { shard = f.shard; voters = f.voters; requests = f.requests; outbox = f.outbox }; spelled = r.named.spelled } in
    record {
      rest = rest;
      named = subst IsNamed (sym is) named;
      index = same ∙ r.index ∙ ap (λ (x : Shard). x.shard) (sym is);
      few = (noted c is_up l clock 0 n j k has x same grown stamp r).few;
      gate = λ up. ap (λ (x : Shard). is_none x.flight) (sym is);
    }

pub none_flies : (f g : Option ℕ) (b : Bool) → g ≡ f → b ≡ is_some g → b ≡ false → f ≡ None
none_flies f g b same is none = at f (ap is_some (sym same) ∙ sym is ∙ none)
  where
    at : (h : Option ℕ) → is_some h ≡ false → h ≡ None
    at None e = refl
    at (Some n) e = absurd cc

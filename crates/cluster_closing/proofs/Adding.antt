-- What the turn of a fetch and that of a restart add.
use Rattle.std.proofs.Common.{◌≡◌, refl, sym, ap, subst, ℕ, ◌≤◌, List, [], ◌∷◌, arith, Option, Result, Ok, Err}
use Rattle.std.specs.List.{AllByRecursion}
use Rattle.clv_base.specs.declared.logs.LogRecord.{LogRecord}
use Rattle.clv_base.specs.declared.events.Event.TheVariants.{Restart}
use Rattle.clv_base.specs.declared.events.Outcome.TheVariants.{Up as IsUp}
use Rattle.clv_base.specs.declared.events.Entry.{Entry}
use Rattle.clv_base.specs.State.{Shard}
use Rattle.clv_base.specs.Restarts.{log_after_restart}
use Rattle.turn_lock.specs.Journals.{entries_by}
use Rattle.machine_calls.specs.Restored.{revives}
use Rattle.machine_laws.specs.declared.notes.Note.{Note}
use Rattle.machine_laws.specs.declared.notes.Note.TheVariants.{Made, Fetched as FetchedBy}
use Rattle.machine_laws.specs.Notes.{noter}
use Rattle.machine_laws.specs.Homes.{entries_in, taker_after, taker}
use Rattle.machine_laws.proofs.Laws.{above}
use Rattle.cluster_closing.specs.declared.fetching.FetchError.{FetchError}
use Rattle.cluster_closing.specs.declared.fetching.FetchError.TheVariants.{Up, Away}
use Rattle.cluster_closing.specs.EndHeld.{FetchTold}
use Rattle.cluster_closing.specs.declared.error.RestartError.{RestartError}
use Rattle.cluster_closing.specs.declared.error.RestartError.TheVariants.{Failed, NotLog, Worn, Memory}
use Rattle.cluster_turns.specs.Births.{IsBornBy}
use Rattle.cluster_closing.specs.Revived.{ReviveTold, clock_at}
use Rattle.cluster_turns.proofs.Laws.{by_one}

-- the notes are the walker's, they give no gate, and none is an operation's with a birth past the clock
pub record AddsCalmly (w clock : ℕ) (added : List Note) : Type 0 where
  pub by : entries_by noter w added ≡ added
  pub takes : (t : Option ℕ) → taker t (entries_in added) ≡ t
  pub born : AllByRecursion (λ e. IsBornBy clock e.event) (entries_in added)

pub nothing_added : (w clock : ℕ) (added : List Note) → added ≡ [] → AddsCalmly w clock added
nothing_added w clock added is = subst (AddsCalmly w clock) (sym is) (record { by = refl; takes = λ t. refl; born = tt })

pub fetch_adds : {D : Type 0} (w clock : ℕ) (r : Result D FetchError) (s t : Shard) (added : List Note) → FetchTold w r s t added → AddsCalmly w clock added
fetch_adds w clock (Ok d) s t added h = subst (AddsCalmly w clock) (sym h.2) (record { by = by_one w (FetchedBy w) refl; takes = λ k. refl; born = tt })
fetch_adds w clock (Err Up) s t added h = nothing_added w clock added h.2
fetch_adds w clock (Err Away) s t added h = nothing_added w clock added h.2

-- the note of a restart
restart_adds : (w clock : ℕ) (x : Entry) (log : List LogRecord) → x.walker ≡ w → x.event ≡ Restart → AddsCalmly w clock (Made x log ∷ [])
restart_adds w clock x log own is = record {
  by = by_one w (Made x log) own;
  takes = λ t. ap (taker_after t x.walker) is;
  born = (subst (IsBornBy clock) (sym is) tt, tt);
}

pub revive_adds : {D : Type 0} (clock w epoch : ℕ) (found : List LogRecord) (r : Result ℕ (RestartError × D)) (clock' c : ℕ) (s t : Shard) (added : List Note) → ReviveTold clock w epoch found r clock' s t added → AddsCalmly w c added
revive_adds clock w epoch found (Ok n) clock' c s t added h =
    let v = h.1 in
    subst (AddsCalmly w c) (sym v.added_is) (restart_adds w c v.made (log_after_restart s.shard found s.run epoch) (ap (λ y. y.walker) v.made_is.entry_is) (ap (λ y. y.event) v.made_is.entry_is))
revive_adds clock w epoch found (Err e) clock' c s t added h = nothing_added w c added h.added_is

pub at_later : (clock : ℕ) (e : RestartError) → clock ≤ clock_at clock e
at_later clock Failed = omega arith
at_later clock (NotLog at) = omega arith
at_later clock (Worn at) = omega arith
at_later clock Memory = omega arith

pub revive_later : {D : Type 0} (clock w epoch : ℕ) (found : List LogRecord) (r : Result ℕ (RestartError × D)) (clock' : ℕ) (s t : Shard) (added : List Note) → ReviveTold clock w epoch found r clock' s t added → clock ≤ clock'
revive_later clock w epoch found (Ok n) clock' s t added h =
    let v = h.1 in
    let up = above (revives s clock w epoch (log_after_restart s.shard found s.run epoch)) s clock w Restart (IsUp epoch) t v.made v.made_is in
    let e = v.clock_is in omega arith
revive_later clock w epoch found (Err e) clock' s t added h = let l = at_later clock e.0 in let i = h.clock_is in omega arith

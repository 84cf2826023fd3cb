-- The promise of a run, from what its cluster's beginning, its sessions and its end told.
use Rattle.std.proofs.Common.{◌≡◌, ◌∙◌, sym, ap, subst, arith, ℕ, suc, ◌<◌, Bool, true, false, List, ◌++◌, length, get_or, Option, Some, None, Ok, Err}
use Rattle.std.specs.List.{AllByRecursion}
use Rattle.std.proofs.lemmas.List.{length-map}
use Rattle.std.proofs.lemmas.Option.{slice_get_within}
use Rattle.clv_base.specs.State.{Shard}
use Rattle.clv_base.specs.Shards.{shard_count}
use Rattle.clv_base.specs.FileRules.{may_open}
use Rattle.clv_base.specs.Journals.{journal_of}
use Rattle.io_model.specs.Sides.{Stories}
use Rattle.cluster_opening.specs.Logs.{LogsOfAll}
use Rattle.history_replay.specs.Entries.{Kept, entries_of}
use Rattle.turn_lock.specs.declared.pass.Pass.{Pass}
use Rattle.turn_lock.specs.Passes.{seen, pass_origin}
use Rattle.machine_laws.specs.declared.notes.Note.{Note}
use Rattle.machine_laws.specs.declared.notes.Origin.{Origin}
use Rattle.machine_laws.specs.Homes.{state_of, has_failed}
use Rattle.cluster_turns.specs.declared.home.Home.{Home}
use Rattle.cluster_turns.specs.declared.shards.Shards.{Shards}
use Rattle.cluster_turns.specs.declared.shards.Walker.{Walker}
use Rattle.script_lang.specs.Bodies.{Body}
use Rattle.script_runs.specs.declared.ends.StopCause.{StopCause}
use Rattle.script_runs.specs.declared.ends.StopCause.TheVariants as stop
use Rattle.cluster_runs.specs.Completing.{SessionsHaveEnded}
use Rattle.cluster_runs.specs.Promises.{RunPromised}
use Rattle.session_api.specs.Grounds.{WasDown}
use Rattle.cluster_runs.specs.PromisedSessions.{Went, NotBegun, Begun, SessionsWent}
use Rattle.cluster_runs.specs.Histories.{entries}
use Rattle.command_line.specs.declared.status.Status.{Status}
use Rattle.command_line.specs.declared.status.Status.TheVariants.{Fine, Usage, Script, ReadFault, WriteFault, DiskFault, NotLog, Memory, Worn, Exists, Apart, WrongTransaction, WrongMap, Unsettled}
use Rattle.command_line.specs.Running.{End, IsOk, status_by}
use Rattle.cluster_runs.specs.Ends.{walked_by, IsClosedRun}
use Rattle.cluster_runs.specs.Statuses.{StatusTold, FlushesTold}
use Rattle.session_api.specs.Standing.{IsAtRest}
use Rattle.cluster_closing.specs.Landed.{HasLanded}
use Rattle.script_runs.specs.Sessions.{session_entries}
use Rattle.clv_base.specs.Restarts.{run_after}
use Rattle.script_runs.specs.declared.threads.Start.{Start}
use Rattle.script_runs.specs.declared.threads.Start.TheVariants.{FirstAlone}
use Rattle.cluster_runs.specs.Drained.{WasDrained, AreDrained, SeeQuiet}
use Rattle.cluster_runs.specs.Alone.{BeginsWith, AreAlone, RanAlone}
use Rattle.cluster_runs.proofs.Alone.{ran_alone}
use Rattle.cluster_runs.proofs.Ending.{others_stand, runs_keep, sessions_have_gone, statuses_tell, flushes_tell, downs_tell, was_drained, quiet_at_end, own_is_kept}
use Rattle.cluster_runs.proofs.Before.{before_sessions}
use Rattle.cluster_runs.specs.Sessions.{HasGrounds, SessionsGone, AreCounted, HasWornLast}
use Rattle.cluster_runs.specs.Ran.{AllEnded, StopTold, RanAll}
use Rattle.law_base.proofs.Lists.{elem_at as some_elem}

-- where all was fine each transaction has ended
module _ (ends : SessionsHaveEnded) (splits : List ℕ) (before now : ℕ → Option Stories) (counts counts_now : ℕ → ℕ) (most : Option ℕ) (script : List (List Body)) (went : ℕ → Went) (kept : Kept)
    (opens : may_open splits kept.found ≡ true) (promised : RunPromised splits before now counts counts_now most script went kept)
    (drained : (k : ℕ) (cause : Option StopCause) → k < length script → went k ≡ Begun cause → (n : ℕ) → n < shard_count splits → WasDrained n kept) where
  all_ended : (shards : ℕ) (status : Status) → StatusTold shards counts counts_now script (entries_of kept.journals) went status → AllEnded splits most script kept status
  all_ended shards Fine told = λ wanted k bodies at.
      let below = slice_get_within script k bodies at in
      let through = told.1 k below in ends splits before now counts counts_now most script went kept k bodies wanted opens promised at through (drained k None below through)
  all_ended shards Usage told = tt
  all_ended shards (Script line) told = tt
  all_ended shards ReadFault told = tt
  all_ended shards WriteFault told = tt
  all_ended shards (DiskFault shard) told = tt
  all_ended shards (NotLog shard at) told = tt
  all_ended shards Memory told = tt
  all_ended shards (Worn at) told = tt
  all_ended shards (Exists shard len) told = tt
  all_ended shards (Apart tx) told = tt
  all_ended shards (WrongTransaction place) told = tt
  all_ended shards (WrongMap key) told = tt
  all_ended shards (Unsettled count) told = tt

-- what stopped a session has its grounds
module _ {M S G : Type 0} (shards : ℕ) (failed : ℕ → Bool) (w : Walker M S G)
    (seen_down : (n : ℕ) (p : Pass (Home M S G) Note Origin) (o : Origin) (first later : List Note) → get_or w.passes.items n None ≡ Some p → pass_origin p ≡ Some o → seen p ≡ first ++ later
    → (state_of o first).is_up ≡ false → (n < shards) × (failed n ≡ true)) where
  was_down : (n : ℕ) → WasDown n w.passes.items → (n < shards) × (failed n ≡ true)
  was_down n (p, has, h) = seen_down n p h.origin h.first h.later (has None) h.has_origin h.seen_is h.down

  stop_told : (went : Went) → HasGrounds went w → StopTold shards failed went
  stop_told NotBegun h = tt
  stop_told (Begun None) h = tt
  stop_told (Begun (Some (stop.Down n))) h = was_down n h
  stop_told (Begun (Some (stop.Unsettled n))) h = was_down n h
  stop_told (Begun (Some (stop.Worn at))) h = h.0
  stop_told (Begun (Some stop.Memory)) h = tt

-- the number that worn stamps name
abbrev number_in : Status → ℕ
number_in (Worn at) = at
number_in status = 0

-- a run is fine only by an end that is
pub fine_end : (down : Option ℕ) (end : End) → status_by down end ≡ Fine → IsOk end
fine_end (Some n) end h = absurd cc
fine_end None (Ok u) h = tt
fine_end None (Err (stop.Worn at)) h = absurd cc
fine_end None (Err stop.Memory) h = absurd cc
fine_end None (Err (stop.Down n)) h = absurd cc
fine_end None (Err (stop.Unsettled n)) h = absurd cc

-- and worn by one that is
pub worn_end : (down : Option ℕ) (end : End) (at : ℕ) → status_by down end ≡ Worn at → end ≡ Err (stop.Worn at)
worn_end (Some n) end at h = absurd cc
worn_end None (Ok u) at h = absurd cc
worn_end None (Err (stop.Worn n)) at h = ap (λ s. Err (stop.Worn (number_in s))) h
worn_end None (Err stop.Memory) at h = absurd cc
worn_end None (Err (stop.Down n)) at h = absurd cc
worn_end None (Err (stop.Unsettled n)) at h = absurd cc

pub ran_all : {M S G : Type 0} → SessionsHaveEnded → (D : Type 0) (shard : M → Shard) (sh : Shards M S G) (walkers : List (Walker M S G)) (homes : List (Home M S G)) (kept : Kept) (down : Option ℕ) (counts counts_now : ℕ → ℕ) (out out_now : ℕ → Bool × Bool)
    (before now : ℕ → Option Stories) (most : Option ℕ) (start : Start) (script : List (List Body)) (went : ℕ → Went) (end : End) (status : Status)
    → IsClosedRun D shard sh walkers homes kept down counts counts_now out out_now before now → length walkers ≡ suc (length script)
    → SessionsGone sh most script walkers went end → AreDrained sh (length script) walkers went → ((k : ℕ) (d : Walker M S G) → k < length walkers → IsAtRest sh k (get_or walkers k d)) → (IsOk end → SeeQuiet sh walkers) → (start ≡ FirstAlone → AreAlone sh most script (λ k d. get_or walkers (suc k) d)) → AreCounted script walkers → HasWornLast walkers end → status ≡ status_by down end → RanAll before now counts counts_now most start script kept status
ran_all {M = M} {S = S} {G = G} ends D shard sh walkers homes kept down counts counts_now out out_now before now most start script went end status ended many gone drains rest seen_so apart counted worn is =
    let numbers : (k : ℕ) (d : Walker M S G) → k < length walkers → (get_or walkers k d).number ≡ k = λ k d few. (rest k d few).number_is in
    let each = subst (λ r. SessionsWent sh.splits r most script went (walked_by walkers)) ended.begun.run (sessions_have_gone sh.splits sh.run most script went walkers numbers many gone.each) in
    let promised = runs_keep {D = D} shard sh walkers homes kept down counts counts_now out out_now before now most script went ended each in
    let told = subst (λ z. StatusTold (shard_count sh.splits) counts counts_now script (entries_of kept.journals) went z) (sym is) (statuses_tell {D = D} shard sh walkers homes kept down counts counts_now out out_now before now script went end ended gone.fine numbers many counted worn) in
    let opens : may_open sh.splits kept.found ≡ true = ap (may_open sh.splits) ended.closed.founds_are ∙ ended.begun.may in
    let drained : (k : ℕ) (cause : Option StopCause) → k < length script → went k ≡ Begun cause → (n : ℕ) → n < shard_count sh.splits → WasDrained n kept = λ k cause l begun n low. (let w = some_elem walkers 0 (omega arith) in
    before_sessions (length script) drains.clock n kept (promised.sessions).others
    (λ j below. (let e = some_elem walkers (suc j) (omega arith) in
    subst (λ es. AllByRecursion (λ x. drains.clock < (x.1).stamp) (session_entries es))
    (sym (own_is_kept {D = D} shard sh walkers homes kept down counts counts_now out out_now before now ended numbers (suc j) e (omega arith))) (drains.later j e below)))
    (was_drained {D = D} shard sh walkers homes kept down counts counts_now out out_now before now ended 0 n drains.clock w (omega arith) low (rest 0 w (omega arith)).walker
    (drains.settled k cause l begun n w (let c = ended.begun.count in omega arith)))) in
    record {
      splits = sh.splits;
      went = went;
      held = subst (λ f. LogsOfAll sh.splits f before) (sym ended.closed.founds_are) ended.begun.held;
      promised = promised;
      opens = opens;
      told = told;
      flushes = subst (λ z. FlushesTold (shard_count sh.splits) (λ n. has_failed (journal_of n (entries kept))) z) (sym is) (flushes_tell {D = D} shard sh walkers homes kept down counts counts_now out out_now before now end ended);
      stops = λ k l. (let few : suc k < length walkers = omega arith in let w = some_elem walkers (suc k) few in
          stop_told (shard_count sh.splits) (λ n. has_failed (journal_of n (entries kept))) (get_or walkers (suc k) w)
          (λ n p o first later has origin is fell. downs_tell {D = D} shard sh walkers homes kept down counts counts_now out out_now before now (suc k) n w p o first later ended few has origin is fell) (went k) (gone.grounds k w l));
      alone = λ first bodies at. (let a = apart first in let some = slice_get_within script 0 bodies at in let w = some_elem walkers 1 (omega arith) in
          subst (λ run. RanAlone sh.splits run most bodies (entries kept)) (ended.begun.run ∙ ap run_after (sym ended.closed.founds_are))
          (ran_alone (length script) a.clock sh.splits sh.run most bodies (entries kept) (promised.sessions).others
          (λ k pos below. (let e = some_elem walkers (suc k) (omega arith) in
          subst (λ es. AllByRecursion (λ x. a.clock < (x.1).stamp) (session_entries es))
          (sym (own_is_kept {D = D} shard sh walkers homes kept down counts counts_now out out_now before now ended numbers (suc k) e (omega arith))) (a.others k e pos below)))
          (subst (λ es. BeginsWith sh.splits sh.run most bodies a.clock (session_entries es))
          (sym (own_is_kept {D = D} shard sh walkers homes kept down counts counts_now out out_now before now ended numbers 1 w (omega arith))) (a.first bodies w at))));
      drained = drained;
      quiet = λ fine n low. (let w = some_elem walkers 0 (omega arith) in let seen = seen_so (fine_end down end (sym is ∙ fine)) in
          quiet_at_end {D = D} shard sh walkers homes kept down counts counts_now out out_now before now ended numbers
          (λ k d few. subst (λ m. HasLanded m (get_or walkers k d).passes.items) (numbers k d few) (rest k d few).landed) w (omega arith) n low
          (λ k d few. seen k n d few (let c = ended.begun.count in omega arith)));
      ended = all_ended ends sh.splits before now counts counts_now most script went kept opens promised drained (shard_count sh.splits) status told;
      shards = ap length ended.closed.journals_are ∙ (length-map homes (λ h. (shard h.machine).journal) ∙ (ended.closed.len ∙ (let ok = sh.locks.ok in let count = ended.begun.count in omega arith)));
      others = others_stand {D = D} shard sh walkers homes kept down counts counts_now out out_now before now ended;
    }

-- What live sessions leave, from what their cluster's beginning, their threads and its end told.
use Rattle.std.proofs.Common.{◌≡◌, ◌∙◌, sym, ap, subst, inl, inr, ⊎_elim, arith, ℕ, zero, suc, ◌+◌, ◌<◌, ◌≤◌, Bool, List, [], ◌∷◌, length, get_or, Option, Result}
use Rattle.std.specs.Prelude.{◌⊎◌}
use Rattle.std.specs.List.{AllByRecursion}
use Rattle.std.proofs.lemmas.List.{length-map}
use Rattle.clv_base.specs.State.{Shard}
use Rattle.clv_base.specs.Shards.{shard_count}
use Rattle.clv_base.specs.FileRules.{may_open}
use Rattle.clv_base.specs.Restarts.{run_after}
use Rattle.clv_base.specs.Journals.{journal_of, own}
use Rattle.io_model.specs.Sides.{Stories}
use Rattle.io_model.specs.declared.whole.ReadError.{ReadError}
use Rattle.report_text.specs.declared.texts.ReportError.{ReportError}
use Rattle.cluster_opening.specs.Logs.{LogsOfAll}
use Rattle.cluster_closing.specs.Landed.{HasLanded}
use Rattle.history_replay.specs.Entries.{Kept}
use Rattle.machine_laws.specs.Homes.{has_failed}
use Rattle.cluster_turns.specs.declared.home.Home.{Home}
use Rattle.cluster_turns.specs.declared.shards.Shards.{Shards}
use Rattle.cluster_turns.specs.declared.shards.Walker.{Walker}
use Rattle.cluster_turns.specs.Walkers.{kept as kept_by}
use Rattle.script_runs.specs.Sessions.{session_entries}
use Rattle.session_api.specs.Standing.{IsAtRest}
use Rattle.command_line.specs.declared.status.Status.{Status}
use Rattle.command_line.specs.Running.{End, IsOk, status_by}
use Rattle.cluster_runs.specs.Ends.{IsClosedRun}
use Rattle.cluster_runs.specs.Histories.{entries}
use Rattle.cluster_runs.specs.Drained.{WasDrained, SeeQuiet}
use Rattle.cluster_runs.specs.Sessions.{HasWornLast, begun_by_all}
use Rattle.cluster_runs.specs.Statuses.{DisksTold, FlushesTold}
use Rattle.cluster_runs.proofs.Laws.{clusters_keep, others_stand, flushes_tell, disks_tell, own_is_kept, others_own_none, was_drained, before_sessions, quiet_at_end, seen_in_history, fine_end, worn_end}
use Rattle.live_threads.specs.Lives.{Life}
use Rattle.live_runs.specs.Lived.{Lived, LivesPromised, RepliesAreInHistory, ServedAll, lines_from}
use Rattle.live_runs.specs.Walked.{HaveLived, AreDrained}
use Rattle.law_base.proofs.Lists.{elem_at as some_elem}

-- sessions began no more tries than they had lines
begun_by_lines : {M S G : Type 0} (lives : ℕ → Life) (ws : List (Walker M S G)) (first count : ℕ) → length ws ≡ count → ((k : ℕ) (d : Walker M S G) → k < count → (get_or ws k d).serial ≤ length (lives (first + k)).asked)
    → begun_by_all ws ≤ lines_from first count lives
begun_by_lines lives [] first count many few = omega arith
begun_by_lines lives (w ∷ ws) first zero many few = absurd (omega arith)
begun_by_lines lives (w ∷ ws) first (suc count) many few =
    let one = few 0 w (omega arith) in
    let same : first + 0 ≡ first = omega arith in
    let at = ap (λ j. length (lives j).asked) same in
    let rest = begun_by_lines lives ws (suc first) count (omega arith) (λ k d low. subst (λ j. (get_or ws k d).serial ≤ length (lives j).asked) (let e : first + suc k ≡ suc first + k = omega arith in e) (few (suc k) d (omega arith))) in
    omega arith

begun_by_all_lines : {M S G : Type 0} (lives : ℕ → Life) (ws : List (Walker M S G)) (sessions : ℕ) → length ws ≡ suc sessions → ((d : Walker M S G) → (get_or ws 0 d).serial ≡ 0)
    → ((k : ℕ) (d : Walker M S G) → k < sessions → (get_or ws (suc k) d).serial ≤ length (lives (suc k)).asked) → begun_by_all ws ≤ lines_from 1 sessions lives
begun_by_all_lines lives [] sessions many none few = absurd (omega arith)
begun_by_all_lines lives (w ∷ ws) sessions many none few =
    let zeroth = none w in
    let rest = begun_by_lines lives ws 1 sessions (omega arith) (λ k d low. subst (λ j. (get_or ws k d).serial ≤ length (lives j).asked) (let e : suc k ≡ 1 + k = omega arith in e) (few k d low)) in
    omega arith

module _
    {M S G : Type 0} (D : Type 0) (shard : M → Shard) (sh : Shards M S G) (walkers : List (Walker M S G)) (homes : List (Home M S G)) (kept : Kept) (down : Option ℕ) (counts counts_now : ℕ → ℕ) (out out_now : ℕ → Bool × Bool) (before now : ℕ → Option Stories)
    (sessions : ℕ) (ended : IsClosedRun D shard sh walkers homes kept down counts counts_now out out_now before now) (many : length walkers ≡ suc sessions) (rest : (k : ℕ) (d : Walker M S G) → k < length walkers → IsAtRest sh k (get_or walkers k d)) where
  numbers : (k : ℕ) (d : Walker M S G) → k < length walkers → (get_or walkers k d).number ≡ k
  numbers k d few = (rest k d few).number_is

  -- the run that its walkers know
  run_is : sh.run ≡ run_after kept.found
  run_is = ended.begun.run ∙ ap run_after (sym ended.closed.founds_are)

  own_at : (k : ℕ) (d : Walker M S G) → k < sessions → own (suc k) (entries kept) ≡ kept_by (get_or walkers (suc k) d).passes.items
  own_at k d low = own_is_kept {D = D} shard sh walkers homes kept down counts counts_now out out_now before now ended numbers (suc k) d (omega arith)

  -- who is no session made nothing that only sessions make
  none_of_others : session_entries (own 0 (entries kept)) ≡ [] → (w : ℕ) → (w ≡ 0) ⊎ (sessions < w) → session_entries (own w (entries kept)) ≡ []
  none_of_others none w (inl zero_is) = ap (λ v. session_entries (own v (entries kept))) zero_is ∙ none
  none_of_others none w (inr past) = ap session_entries (others_own_none {D = D} shard sh walkers homes kept down counts counts_now out out_now before now ended numbers w (omega arith))

  promised : (lives : ℕ → Life) → ((k : ℕ) (d : Walker M S G) → k < sessions → Lived sh.splits sh.run (suc k) (lives (suc k)) (session_entries (kept_by (get_or walkers (suc k) d).passes.items)))
      → LivesPromised sh.splits before now counts counts_now sessions lives kept
  promised lives each =
      let c = clusters_keep {D = D} shard sh walkers homes kept down counts counts_now out out_now before now ended in
      record {
        keeps = c.keeps;
        each = λ k low. (let w = some_elem walkers (suc k) (omega arith) in
            subst (λ r. Lived sh.splits r (suc k) (lives (suc k)) (session_entries (own (suc k) (entries kept)))) run_is
            (subst (λ es. Lived sh.splits sh.run (suc k) (lives (suc k)) (session_entries es)) (sym (own_at k w low)) (each k w low)));
        others = none_of_others c.no_session;
        rose = c.rose;
        stands = c.stands;
        on = c.on;
      }

  -- behind the first drain
  drained : (lives : ℕ → Life) → ((w : ℕ) → (w ≡ 0) ⊎ (sessions < w) → session_entries (own w (entries kept)) ≡ []) → AreDrained sh sessions walkers lives
      → (k : ℕ) → k < sessions → ((lives (suc k)).asked ≡ []) ⊎ ((n : ℕ) → n < shard_count sh.splits → WasDrained n kept)
  drained lives others drains k low = ⊎_elim
      (λ none. inl (none k low))
      (λ settled. inr (λ n few. (let w = some_elem walkers 0 (omega arith) in
      before_sessions sessions drains.clock n kept others
      (λ j below. (let e = some_elem walkers (suc j) (omega arith) in
      subst (λ es. AllByRecursion (λ x. drains.clock < (x.1).stamp) (session_entries es)) (sym (own_at j e below)) (drains.later j e below)))
      (was_drained {D = D} shard sh walkers homes kept down counts counts_now out out_now before now ended 0 n drains.clock w (omega arith) few (rest 0 w (omega arith)).walker
      (settled n w (let c = ended.begun.count in omega arith))))))
      drains.settled

  pub served_all : RepliesAreInHistory → (left left' taken taken' : Option (List ℕ)) (read : Result (Unit {0}) ReadError) (written : Result (Unit {0}) ReportError) (end : End) (status : Status) (lives : ℕ → Life)
      → HaveLived sh sessions walkers lives left left' taken taken' read written end → AreDrained sh sessions walkers lives → (IsOk end → SeeQuiet sh walkers) → HasWornLast walkers end → status ≡ status_by down end
      → ServedAll before now counts counts_now sessions left left' taken taken' read written kept status
  served_all replies left left' taken taken' read written end status lives lived drains seen_so worn is =
      let keeps = promised lives lived.each in
      record {
        splits = sh.splits;
        lives = lives;
        refused = lived.refused;
        held = subst (λ f. LogsOfAll sh.splits f before) (sym ended.closed.founds_are) ended.begun.held;
        opens = ap (may_open sh.splits) ended.closed.founds_are ∙ ended.begun.may;
        promised = keeps;
        acknowledged = (replies sh.splits before now counts counts_now sessions lives kept keeps).0;
        answers = (replies sh.splits before now counts counts_now sessions lives kept keeps).1;
        took = lived.took;
        told = lived.told;
        all = λ fine. lived.all (fine_end down end (sym is ∙ fine));
        disks = subst (λ z. DisksTold (shard_count sh.splits) counts counts_now z) (sym is)
            (disks_tell {D = D} shard sh walkers homes kept down counts counts_now out out_now before now end ended (λ at worn_at. (worn at worn_at).0));
        flushes = subst (λ z. FlushesTold (shard_count sh.splits) (λ n. has_failed (journal_of n (entries kept))) z) (sym is) (flushes_tell {D = D} shard sh walkers homes kept down counts counts_now out out_now before now end ended);
        worn = λ at worn_at.
            let told = worn at (worn_end down end at (sym is ∙ worn_at)) in
            let seen = seen_in_history {D = D} shard sh walkers homes kept down counts counts_now out out_now before now ended in
            let begun = begun_by_all_lines lives walkers sessions many lived.none lived.few in
            let last = told.1 in
            omega arith;
        drained = drained lives keeps.others drains;
        quiet = λ fine n low. (let w = some_elem walkers 0 (omega arith) in let seen = seen_so (fine_end down end (sym is ∙ fine)) in
            quiet_at_end {D = D} shard sh walkers homes kept down counts counts_now out out_now before now ended numbers
            (λ k d few. subst (λ m. HasLanded m (get_or walkers k d).passes.items) (numbers k d few) (rest k d few).landed) w (omega arith) n low
            (λ k d few. seen k n d few (let c = ended.begun.count in omega arith)));
        shards = ap length ended.closed.journals_are ∙ (length-map homes (λ h. (shard h.machine).journal) ∙ (ended.closed.len ∙ (let ok = sh.locks.ok in let count = ended.begun.count in omega arith)));
        others = others_stand {D = D} shard sh walkers homes kept down counts counts_now out out_now before now ended;
      }

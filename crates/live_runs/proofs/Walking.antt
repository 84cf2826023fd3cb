-- What the walker of a session leaves.
use Rattle.std.proofs.Common.{◌≡◌, refl, ◌∙◌, sym, ap, subst, arith, ℕ, zero, suc, max, ◌+◌, ◌<◌, ◌≤◌, List, [], ◌∷◌, ◌++◌, length, append-nil, get_or, set, inl, inr, false, Option, Some, None, Result, Ok, Err, IfErr}
use Rattle.std.specs.List.{AllByRecursion}
use Rattle.clv_base.specs.declared.names.Point.{Point}
use Rattle.io_model.specs.Streams.{Grows, Consumes}
use Rattle.cluster_turns.specs.declared.shards.Shards.{Shards}
use Rattle.cluster_turns.specs.declared.shards.Walker.{Walker}
use Rattle.cluster_turns.specs.Walkers.{kept}
use Rattle.cluster_turns.specs.Dates.{last_seen}
use Rattle.cluster_opening.specs.Made.{IsNewWalker}
use Rattle.command_line.specs.Running.{End, IsOk}
use Rattle.session_api.specs.declared.progress.Progress.{Progress}
use Rattle.session_api.specs.Standing.{Holds, HoldsSaves, IsAtRest, seen_in, standing_of}
use Rattle.session_api.specs.Grounds.{Grounds}
use Rattle.session_api.proofs.Laws.{sessions_rest, new_walkers_keep_none}
use Rattle.script_lang.specs.Savepoints.{Savepoints}
use Rattle.script_runs.specs.declared.ends.StopCause.{StopCause}
use Rattle.script_runs.specs.Sessions.{session_entries}
use Rattle.script_runs.specs.Seen.{Seen, Idle}
use Rattle.script_runs.specs.Ran.{IsIdle}
use Rattle.script_runs.proofs.Laws.{all_past}
use Rattle.cluster_runs.specs.Sessions.{base_from}
use Rattle.cluster_runs.specs.Drained.{WasSettled, HaveLooked}
use Rattle.cluster_runs.proofs.Laws.{sees_settled}
use Rattle.io_model.specs.declared.whole.ReadError.{ReadError}
use Rattle.report_text.specs.declared.texts.ReportError.{ReportError}
use Rattle.live_sessions.specs.Served.{none_taken}
use Rattle.live_sessions.proofs.Laws.{replies_tell_entries}
use Rattle.live_streams.specs.Inputs.{no_line}
use Rattle.live_threads.specs.Lives.{Life, HasLived, TookRequests, Streamed, replies_in}
use Rattle.live_streams.specs.Outputs.{TookReplies}
use Rattle.live_runs.specs.Lived.{Lived}
use Rattle.live_runs.specs.Walked.{IsPlaced, HasWalked, HaveLived, AreDrained}

module _ {M S G : Type 0} where
  pub holds_on : (sh old : Shards M S G) (clock k : ℕ) (w : Walker M S G) (s : Progress) (saves : List ℕ) (script : Savepoints) → IsPlaced sh clock k old w s saves script → HoldsSaves old w s saves script
  holds_on sh old clock k w s saves script placed = subst (λ z. HoldsSaves z w s saves script) (sym placed.on) placed.holds

  pub idle : (sh old : Shards M S G) (clock k : ℕ) (w : Walker M S G) (a : Point) (s : Progress) (saves : List ℕ) (script : Savepoints) → IsPlaced sh clock k old w s saves script → IsIdle (seen_in old w a s)
  idle sh old clock k w a s saves script placed = (None, ap standing_of placed.none_begun)

  -- a life of a new walker's session
  pub lived_new :
      (sh : Shards M S G) (clock k : ℕ) (w : Walker M S G) (a : Point) (s : Progress) (saves : List ℕ) (script : Savepoints) (life : Life) (closed : Seen) → IsPlaced sh clock k sh w s saves script → HasLived life (seen_in sh w a s) closed → Lived sh.splits sh.run (suc k) life closed.entries
  lived_new sh clock k w a s saves script life closed placed lives = record {
    first = seen_in sh w a s;
    closed = closed;
    new = record {
      splits_are = refl;
      run_is = refl;
      walker_is = (placed.new).number_is;
      entries_are = ap session_entries (new_walkers_keep_none M S G sh (suc k) clock w placed.new);
      serial_is = (placed.new).none_begun;
      standing_is = ap standing_of placed.none_begun;
    };
    lived = lives;
    entries_are = refl;
  }

  walked_on : (sh : Shards M S G) (clock k : ℕ) (w v : Walker M S G) (a b : Point) (s t : Progress) (saves : List ℕ) (script : Savepoints) (life : Life) (end : End)
      → IsPlaced sh clock k sh w s saves script → Holds sh v t → HasLived life (seen_in sh w a s) (seen_in sh v b t) → IfErr end (Grounds v) → HasWalked sh clock k life v end
  walked_on sh clock k w v a b s t saves script life end placed holds lives grounds =
      let u : Seen = seen_in sh w a s in
      let z : Seen = seen_in sh v b t in
      let told = replies_tell_entries life.asked life.replies u lives.last z lives.course lives.over lives.served lives.closes in
      let g = told.grows in
      let r = sessions_rest M S G sh v t holds in
      let new = placed.new in
      let none : session_entries (kept w.passes.items) ≡ [] = ap session_entries (new_walkers_keep_none M S G sh (suc k) clock w new) in
      let zero_is = new.none_begun in let clock_is = new.clock_is in let begun = g.serial_is in let few = told.few in let dated = g.dated in
      record {
        rest = record { walker = r.walker; number_is = g.walker_is ∙ new.number_is; landed = r.landed; fetched = r.fetched; disks = r.disks };
        lived = lived_new sh clock k w a s saves script life z placed lives;
        few = omega arith;
        dated = omega arith;
        grounds = grounds;
        later = subst (AllByRecursion (λ e. clock < (e.1).stamp)) (sym (g.entries_are ∙ ap (λ l. l ++ (told.es ++ told.end)) none)) (all_past clock w.clock v.clock (told.es ++ told.end) (omega arith) g.stamped);
      }

  pub walked : (sh old new : Shards M S G) (clock k : ℕ) (w v : Walker M S G) (a b : Point) (s t : Progress) (saves : List ℕ) (script : Savepoints) (life : Life) (end : End)
      → IsPlaced sh clock k old w s saves script → Holds new v t → new ≡ old → HasLived life (seen_in old w a s) (seen_in new v b t) → IfErr end (Grounds v) → HasWalked sh clock k life v end
  walked sh old new clock k w v a b s t saves script life end placed holds stays lives grounds =
      let is : new ≡ sh = stays ∙ placed.on in
      walked_on sh clock k w v a b s t saves script life end (subst (λ z. IsPlaced sh clock k z w s saves script) placed.on placed) (subst (λ z. Holds z v t) is holds)
      (subst (λ z. HasLived life (seen_in sh w a s) (seen_in z v b t)) is (subst (λ z. HasLived life (seen_in z w a s) (seen_in new v b t)) placed.on lives)) grounds

-- the base of each session's clock is the one that they all had
pub dated_from : (clock k serial latest own : ℕ) → own ≤ serial + max clock latest → own ≤ serial + max (base_from clock clock k) latest
dated_from clock zero serial latest own low = low
dated_from clock (suc k) serial latest own low = omega arith

-- ---- where nothing was read

abbrev pub no_life : ℕ → Life
no_life k = record { asked = []; replies = [] }

none_grows : (taken : Option (List ℕ)) → Grows taken taken []
none_grows None = refl
none_grows (Some bytes) = ap Some (sym (append-nil bytes))

none_consumed : (left : Option (List ℕ)) → Consumes left left []
none_consumed None = refl
none_consumed (Some bytes) = (bytes, refl, refl)

none_told : (k : ℕ) → replies_in no_life [] k ≡ []
none_told zero = refl
none_told (suc k) = refl

pub nothing_told : (sessions : ℕ) (taken : Option (List ℕ)) → TookReplies sessions (replies_in no_life []) taken taken (Ok (tt {0}))
nothing_told sessions taken = record {
  written = [];
  takes = none_grows taken;
  fronts = λ k low. ([], none_told k);
  whole = λ ok k low. sym (none_told k);
}

pub nothing_took : (sessions : ℕ) → TookRequests sessions no_life [] []
nothing_took sessions = record { handed = []; input = ([], [], refl, no_line); fronts = λ k low. ([], refl) }

module _ {M S G : Type 0} (sh : Shards M S G) where
  none_lived : (k : ℕ) (w : Walker M S G) → IsNewWalker sh (suc k) 0 w → Lived sh.splits sh.run (suc k) (no_life (suc k)) (session_entries (kept w.passes.items))
  none_lived k w new = (let u : Seen = record { splits = sh.splits; run = sh.run; walker = w.number; entries = session_entries (kept w.passes.items); clock = w.clock; latest = last_seen w.passes.items; serial = w.serial; standing = Idle None; asked = record { stamp = 0; shard = 0 } } in
      record {
        first = u;
        closed = u;
        new = record {
          splits_are = refl;
          run_is = refl;
          walker_is = new.number_is;
          entries_are = ap session_entries (new_walkers_keep_none M S G sh (suc k) 0 w new);
          serial_is = new.none_begun;
          standing_is = refl;
        };
        lived = record { last = u; course = record { may_retry = false; ended = None }; over = None; served = none_taken u _ None (refl, refl); closes = refl };
        entries_are = refl;
      })

  -- walkers that are new but for walker 0
  pub nothing_lived : (sessions : ℕ) (walkers : List (Walker M S G)) (left taken : Option (List ℕ)) (cause : StopCause) → ((d : Walker M S G) → (get_or walkers 0 d).serial ≡ 0)
      → ((k : ℕ) (d : Walker M S G) → k < sessions → IsNewWalker sh (suc k) 0 (get_or walkers (suc k) d)) → HaveLived sh sessions walkers no_life left left taken taken (Ok (tt {0})) (Ok (tt {0})) (Err cause)
  nothing_lived sessions walkers left taken cause none new = record {
    refused = [];
    each = λ k d low. none_lived k (get_or walkers (suc k) d) (new k d low);
    none = none;
    few = λ k d low. (let z = (new k d low).none_begun in omega arith);
    took = ([], none_consumed left, nothing_took sessions);
    told = nothing_told sessions taken;
    all = λ ok. absurd ok;
  }

  pub nothing_served :
      (sessions : ℕ) (walkers : List (Walker M S G)) (left taken : Option (List ℕ)) (cause : StopCause) (end : End) (read : Result (Unit {0}) ReadError) (written : Result (Unit {0}) ReportError)
      → (end ≡ Err cause) × (read ≡ Ok (tt {0})) × (written ≡ Ok (tt {0})) → ((d : Walker M S G) → (get_or walkers 0 d).serial ≡ 0)
      → ((k : ℕ) (d : Walker M S G) → k < sessions → IsNewWalker sh (suc k) 0 (get_or walkers (suc k) d)) → HaveLived sh sessions walkers no_life left left taken taken read written end
  nothing_served sessions walkers left taken cause end read written (ends, reads, writes) none new =
      subst (λ x. HaveLived sh sessions walkers no_life left left taken taken read written x) (sym ends)
      (subst (λ x. HaveLived sh sessions walkers no_life left left taken taken x written (Err cause)) (sym reads)
      (subst (λ x. HaveLived sh sessions walkers no_life left left taken taken (Ok (tt {0})) x (Err cause)) (sym writes) (nothing_lived sessions walkers left taken cause none new)))

  pub nothing_drained : (sessions : ℕ) (walkers : List (Walker M S G)) → ((k : ℕ) (d : Walker M S G) → k < sessions → IsNewWalker sh (suc k) 0 (get_or walkers (suc k) d)) → AreDrained sh sessions walkers no_life
  nothing_drained sessions walkers new = record {
    clock = 0;
    settled = inl (λ k low. refl);
    later = λ k d low. subst (λ h. AllByRecursion (λ e. 0 < (e.1).stamp) (session_entries h)) (sym (new_walkers_keep_none M S G sh (suc k) 0 (get_or walkers (suc k) d) (new k d low))) tt;
  }

  -- ---- all of them

  pub all_lived :
      (sessions places : ℕ) (walkers : List (Walker M S G)) (lives : ℕ → Life) (left left' taken taken' : Option (List ℕ)) (read : Result (Unit {0}) ReadError) (written : Result (Unit {0}) ReportError) (end : End)
      → places ≡ sessions → Streamed places lives left left' taken taken' read written
      → ((k : ℕ) (d : Walker M S G) → k < sessions → Lived sh.splits sh.run (suc k) (lives (suc k)) (session_entries (kept (get_or walkers (suc k) d).passes.items)))
      → ((d : Walker M S G) → (get_or walkers 0 d).serial ≡ 0) → ((k : ℕ) (d : Walker M S G) → k < sessions → (get_or walkers (suc k) d).serial ≤ length (lives (suc k)).asked)
      → HaveLived sh sessions walkers lives left left' taken taken' read written end
  all_lived sessions places walkers lives left left' taken taken' read written end same streamed each none few =
      let st = subst (λ n. Streamed n lives left left' taken taken' read written) same streamed in
      record { refused = st.refused; each = each; none = none; few = few; took = st.took; told = st.told; all = λ fine. st.all }

  -- ---- between the drains of walker 0

  pub behind : (walkers : List (Walker M S G)) (w d : Walker M S G) (k : ℕ) → get_or (set walkers 0 w) (suc k) d ≡ get_or walkers (suc k) d
  behind [] w d k = refl
  behind (x ∷ xs) w d k = refl

  pub here : (walkers : List (Walker M S G)) (w d : Walker M S G) → 0 < length walkers → get_or (set walkers 0 w) 0 d ≡ w
  here [] w d some = absurd (omega arith)
  here (x ∷ xs) w d some = refl

  pub all_rest :
      (sessions : ℕ) (walkers : List (Walker M S G)) (w : Walker M S G) → 0 < length walkers → IsAtRest sh 0 w → ((k : ℕ) (d : Walker M S G) → k < sessions → IsAtRest sh (suc k) (get_or walkers (suc k) d))
      → (k : ℕ) (d : Walker M S G) → k < sessions + 1 → IsAtRest sh k (get_or (set walkers 0 w) k d)
  all_rest sessions walkers w some rest others zero d low = subst (IsAtRest sh 0) (sym (here walkers w d some)) rest
  all_rest sessions walkers w some rest others (suc k) d low = subst (IsAtRest sh (suc k)) (sym (behind walkers w d k)) (others k d (omega arith))

  -- looks make nothing
  module _ (us vs : List (Walker M S G)) (v : Walker M S G) (some : 0 < length us) (l : HaveLooked sh (set us 0 v) vs) where
    same_kept : (k : ℕ) (d : Walker M S G) → kept (get_or vs (suc k) d).passes.items ≡ kept (get_or us (suc k) d).passes.items
    same_kept k d = (l.each (suc k) d).sees.kept_is ∙ ap (λ w. kept w.passes.items) (behind us v d k)

    pub lived_still :
        (sessions : ℕ) (lives : ℕ → Life) (left left' taken taken' : Option (List ℕ)) (read : Result (Unit {0}) ReadError) (written : Result (Unit {0}) ReportError) (end last : End) → (IsOk last → IsOk end) → v.serial ≡ 0
        → HaveLived sh sessions us lives left left' taken taken' read written end → HaveLived sh sessions vs lives left left' taken taken' read written last
    lived_still sessions lives left left' taken taken' read written end last fine none h = record {
      refused = h.refused;
      each = λ k d low. subst (λ es. Lived sh.splits sh.run (suc k) (lives (suc k)) (session_entries es)) (sym (same_kept k d)) (h.each k d low);
      none = λ d. (l.each 0 d).serial_is ∙ (ap (λ w. w.serial) (here us v d some) ∙ none);
      few = λ k d low. (let a = (l.each (suc k) d).serial_is in let b = ap (λ w. w.serial) (behind us v d k) in let f = h.few k d low in omega arith);
      took = h.took;
      told = h.told;
      all = λ ok. h.all (fine ok);
    }

    pub drained_still :
        (sessions : ℕ) (lives : ℕ → Life) (clock : ℕ) → ((n : ℕ) → n < length sh.locks.items → WasSettled n clock v.passes.items)
        → ((k : ℕ) (d : Walker M S G) → k < sessions → AllByRecursion (λ e. clock < (e.1).stamp) (session_entries (kept (get_or us (suc k) d).passes.items))) → AreDrained sh sessions vs lives
    drained_still sessions lives clock settled later = record {
      clock = clock;
      settled = inr (λ n d low. sees_settled (l.each 0 d).sees n clock (subst (λ w. WasSettled n clock w.passes.items) (sym (here us v d some)) (settled n low)));
      later = λ k d low. subst (λ es. AllByRecursion (λ e. clock < (e.1).stamp) (session_entries es)) (sym (same_kept k d)) (later k d low);
    }

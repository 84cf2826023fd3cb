-- What a session of a seat leaves.
use Rattle.std.proofs.Common.{◌≡◌, refl, ◌∙◌, sym, ap, subst, arith, true, ℕ, zero, suc, max, ◌<◌, ◌≤◌, List, [], ◌∷◌, ◌++◌, length, Option, Some, IfErr, slice_get}
use Rattle.std.specs.List.{AllByRecursion, list_all}
use Rattle.clv_base.specs.declared.names.Point.{Point}
use Rattle.cluster_turns.specs.declared.shards.Shards.{Shards}
use Rattle.cluster_turns.specs.declared.shards.Walker.{Walker}
use Rattle.script_lang.specs.Bodies.{Body}
use Rattle.script_lang.specs.Laws.{is_narrow_body}
use Rattle.script_lang.specs.Savepoints.{Savepoints}
use Rattle.script_runs.specs.Ran.{stop_in, Rise, stamps, FollowsFrom}
use Rattle.command_line.specs.Running.{End}
use Rattle.session_api.specs.declared.progress.Progress.{Progress}
use Rattle.session_api.specs.Standing.{Holds, seen_in, standing_of}
use Rattle.session_api.specs.Grounds.{Grounds, HasMissed}
use Rattle.script_runs.specs.Sessions.{session_entries}
use Rattle.script_runs.specs.Seen.{Seen}
use Rattle.script_runs.specs.Alone.{base_of}
use Rattle.script_runs.proofs.Laws.{all_past, session_tries_are_few}
use Rattle.session_api.proofs.Laws.{sessions_rest, scripts_follow, new_walkers_keep_none}
use Rattle.clv_base.specs.Shards.{are_splits}
use Rattle.cluster_turns.specs.Walkers.{kept}
use Rattle.session_books.specs.Counts.{counts_in}
use Rattle.session_books.specs.Books.{Book, rows}
use Rattle.script_runs.specs.Books.{IsKept, AreUpTo, total}
use Rattle.cluster_runs.specs.Books.{IsBlank}
use Rattle.cluster_runs.specs.Sessions.{IsSeated, HasSat, base_from}
use Rattle.law_base.proofs.Bools.{and_first, and_second}

rise_from : (lo lo' hi : ℕ) (ns : List ℕ) → lo ≤ lo' → Rise lo' ns hi → Rise lo ns hi
rise_from lo lo' hi [] l r = omega arith
rise_from lo lo' hi (n ∷ ns) l r = (let low = r.0 in omega arith, r.1)

module _ {M S G : Type 0} where
  pub sat : {saves : List ℕ} {marks : Savepoints} (sh old new : Shards M S G) (clock base : ℕ) (w v : Walker M S G) (a b : Point) (s t : Progress) (bodies : List Body) (most : Option ℕ) (script : List (List Body)) (k : ℕ) (end : End)
      → IsSeated sh clock script k old w s saves marks bodies → Holds new v t → new ≡ old → FollowsFrom base (HasMissed v) bodies most (stop_in end) (seen_in old w a s) (seen_in new v b t) → IfErr end (Grounds v) → HasSat sh clock base most script k v end
  sat sh old new clock base w v a b s t bodies most script k end seat holds stays follows grounds =
      let is : new ≡ sh = stays ∙ seat.on in
      let f = subst (λ z. FollowsFrom base (HasMissed v) bodies most (stop_in end) (seen_in sh w a s) (seen_in z v b t)) is (subst (λ z. FollowsFrom base (HasMissed v) bodies most (stop_in end) (seen_in z w a s) (seen_in new v b t)) seat.on follows) in
      let told = scripts_follow M S G sh (suc k) clock base w v a b (standing_of s) (standing_of t) bodies most (stop_in end) seat.new f in
      let r = sessions_rest M S G sh v t (subst (λ z. Holds z v t) is holds) in
      let kept_is = (f.2).entries_are ∙ ap (λ l. session_entries l ++ f.0) (new_walkers_keep_none M S G sh (suc k) clock w seat.new) in
      let began = (f.2).serial_is in
      let none = (seat.new).none_begun in
      record {
        rest = record { walker = r.walker; number_is = told.0; landed = r.landed; fetched = r.fetched; disks = r.disks };
        went = λ wanted at.
            (let g = (scripts_follow M S G sh (suc k) clock base w v a b (standing_of s) (standing_of t) wanted most (stop_in end) seat.new
            (subst (λ z. FollowsFrom base (HasMissed v) z most (stop_in end) (seen_in sh w a s) (seen_in sh v b t)) (seat.bodies wanted at) f)).1 in
            record { follows = g.0; clock = v.clock; births = rise_from 0 clock v.clock (stamps (g.0).transactions) (omega arith) g.1; counted = g.2 });
        dated = (let d = (f.2).dated in omega arith);
        few = λ wanted at.
            (let t = session_tries_are_few sh.splits sh.run w.number most bodies (f.1).transactions (stop_in end) (f.1).in_order in
            let e = ap length (f.1).entries_are in
            let l = ap length kept_is in
            let b = ap length (seat.bodies wanted at) in
            omega arith);
        grounds = grounds;
        later = subst (AllByRecursion (λ e. clock < (e.1).stamp)) (sym kept_is) (all_past clock w.clock v.clock f.0 (let c = (seat.new).clock_is in omega arith) (f.2).stamped);
      }

  -- a new session has made nothing, and its book is blank
  pub new_kept : {saves : List ℕ} {marks : Savepoints} (sh old : Shards M S G) (clock : ℕ) (w : Walker M S G) (a : Point) (s : Progress) (bodies : List Body) (script : List (List Body)) (k : ℕ) (book : Book) → IsSeated sh clock script k old w s saves marks bodies → IsBlank book → IsKept (seen_in old w a s) book
  new_kept sh old clock w a s bodies script k book seat blank =
      let none : session_entries (kept w.passes.items) ≡ [] = ap session_entries (new_walkers_keep_none M S G sh (suc k) clock w seat.new) in
      record {
        splits_are = ap (λ z. are_splits z.splits) seat.on ∙ (seat.holds).holds.splits;
        is_book = record { rows = blank.rows ∙ ap rows (sym none); counts = blank.counts ∙ ap (λ es. counts_in es es) (sym none) };
        up_to = subst (AreUpTo w.serial w.clock) (sym none) tt;
        few = subst (λ c. total c ≤ w.clock) (sym blank.counts) (omega arith);
      }

-- the clock from which each rose
pub same_base : (clock base k : ℕ) (u : Seen) → u.clock ≡ clock → base_of base k u ≡ base_from clock base k
same_base clock base zero u is = is
same_base clock base (suc k) u is = ap (λ c. max c base) is

-- each session of a script that has it is narrow
pub narrow_at : (script : List (List Body)) (k : ℕ) (bodies : List Body) → k < length script → list_all (list_all is_narrow_body) script ≡ true → ((wanted : List Body) → slice_get script k ≡ Some wanted → bodies ≡ wanted)
    → list_all is_narrow_body bodies ≡ true
narrow_at [] k bodies low all is = absurd (omega arith)
narrow_at (x ∷ xs) zero bodies low all is = subst (λ z. list_all is_narrow_body z ≡ true) (sym (is x refl)) (and_first (list_all is_narrow_body x) (list_all (list_all is_narrow_body) xs) all)
narrow_at (x ∷ xs) (suc k) bodies low all is = narrow_at xs k bodies (omega arith) (and_second (list_all is_narrow_body x) (list_all (list_all is_narrow_body) xs) all) is

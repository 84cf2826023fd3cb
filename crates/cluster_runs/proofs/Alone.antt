-- A first session whose first transaction ran alone.
use Rattle.std.proofs.Common.{◌≡◌, ◌≢◌, refl, sym, ap, ◌∙◌, subst, inl, inr, ℕ, zero, suc, ◌<◌, ◌≤◌, nat_lt, Bool, true, false, List, [], ◌∷◌, ◌++◌, take, length, get_or, set, Option, Some, None, slice_get, arith}
use Rattle.std.specs.Prelude.{◌⊎◌}
use Rattle.std.specs.List.{AllByRecursion}
use Rattle.std.proofs.lemmas.Bool.{ltb-true, ltb-false}
use Rattle.std.proofs.lemmas.Option.{slice_get_within}
use Rattle.clv_base.specs.Journals.{History, own}
use Rattle.clv_base.specs.declared.names.Point.{Point}
use Rattle.cluster_turns.specs.declared.shards.Shards.{Shards}
use Rattle.cluster_turns.specs.declared.shards.Walker.{Walker}
use Rattle.cluster_turns.specs.Walkers.{kept}
use Rattle.cluster_opening.specs.Made.{IsNewWalker}
use Rattle.script_lang.specs.Bodies.{Body}
use Rattle.script_lang.specs.Savepoints.{Savepoints}
use Rattle.script_runs.specs.declared.ends.StopCause.TheVariants as stop
use Rattle.script_runs.specs.Sessions.{FollowsScript, all_done, not_begun, session_entries}
use Rattle.script_runs.specs.Alone.{BeginsBy, BeginsPast}
use Rattle.session_api.specs.declared.progress.Progress.{Progress}
use Rattle.session_api.specs.Standing.{seen_in}
use Rattle.session_api.proofs.Laws.{new_walkers_keep_none}
use Rattle.cluster_runs.specs.Sessions.{IsSeated}
use Rattle.cluster_runs.specs.Alone.{BeginsWith, AreAlone, RanAlone}
use Rattle.law_base.proofs.Lists.{all_mono}

-- ---- a session that made nothing

nothing_of : (splits : List ℕ) (run : ℕ) (most : Option ℕ) (bodies : List Body) (clock : ℕ) → BeginsWith splits run most bodies clock []
nothing_of splits run most [] clock = record {
  cause = None;
  first = [];
  rest = [];
  entries_are = refl;
  follows = record { transactions = []; in_order = all_done; entries_are = refl; births_rise = refl; serials_rise = refl };
  early = tt;
}
nothing_of splits run most (body ∷ bodies) clock = record {
  cause = Some (stop.Worn 0);
  first = [];
  rest = [];
  entries_are = refl;
  follows = record { transactions = []; in_order = not_begun body [] 0; entries_are = refl; births_rise = refl; serials_rise = refl };
  early = tt;
}

module _ {M S G : Type 0} (sh : Shards M S G) (most : Option ℕ) (script : List (List Body)) where
  keeps_none : (number : ℕ) (w : Walker M S G) → IsNewWalker sh number 0 w → session_entries (kept w.passes.items) ≡ []
  keeps_none number w new = ap session_entries (new_walkers_keep_none _ _ _ sh number 0 w new)

  pub none_alone : {X : Type 0} (walker_at : ℕ → X → Walker M S G) → ((k : ℕ) (d : X) → k < length script → IsNewWalker sh (suc k) 0 (walker_at k d)) → AreAlone sh most script walker_at
  none_alone walker_at new = record {
    clock = 0;
    first = λ bodies d at. subst (BeginsWith sh.splits sh.run most bodies 0) (sym (keeps_none 1 (walker_at 0 d) (new 0 d (slice_get_within script 0 bodies at)))) (nothing_of sh.splits sh.run most bodies 0);
    others = λ k d pos l. subst (AllByRecursion (λ e. 0 < (e.1).stamp)) (sym (keeps_none (suc k) (walker_at k d) (new k d l))) tt;
  }

  -- where walkers are the same
  pub same_alone : {X : Type 0} (before after : ℕ → X → Walker M S G) → ((k : ℕ) (d : X) → after k d ≡ before k d) → AreAlone sh most script before → AreAlone sh most script after
  same_alone before after same a = record {
    clock = a.clock;
    first = λ bodies d at. subst (λ w. BeginsWith sh.splits sh.run most bodies a.clock (session_entries (kept w.passes.items))) (sym (same 0 d)) (a.first bodies d at);
    others = λ k d pos l. subst (λ w. AllByRecursion (λ e. a.clock < (e.1).stamp) (session_entries (kept w.passes.items))) (sym (same k d)) (a.others k d pos l);
  }

  -- ---- a seat

  made_all : {saves : List ℕ} {marks : Savepoints} (clock0 k : ℕ) (old : Shards M S G) (w v : Walker M S G) (s : Progress) (bodies : List Body) (more : History) → IsSeated sh clock0 script k old w s saves marks bodies → session_entries (kept v.passes.items) ≡ session_entries (kept w.passes.items) ++ more
      → session_entries (kept v.passes.items) ≡ more
  made_all clock0 k old w v s bodies more seat is = is ∙ ap (λ l. session_entries l ++ more) (new_walkers_keep_none _ _ _ sh (suc k) clock0 w seat.new)

  pub sat_first : {saves : List ℕ} {marks : Savepoints} (clock0 clock : ℕ) (old new : Shards M S G) (w v : Walker M S G) (a b : Point) (s t : Progress) (bodies wanted : List Body) → IsSeated sh clock0 script 0 old w s saves marks bodies → slice_get script 0 ≡ Some wanted
      → BeginsBy clock bodies most (seen_in old w a s) (seen_in new v b t) → BeginsWith sh.splits sh.run most wanted clock (session_entries (kept v.passes.items))
  sat_first clock0 clock old new w v a b s t bodies wanted seat at begun = record {
    cause = begun.cause;
    first = begun.first;
    rest = begun.rest;
    entries_are = made_all clock0 0 old w v s bodies (begun.first ++ begun.rest) seat begun.entries_are;
    follows =
        subst (λ bs. FollowsScript sh.splits sh.run 1 most (take 1 bs) begun.cause begun.first) (seat.bodies wanted at)
        (subst (λ n. FollowsScript sh.splits sh.run n most (take 1 bodies) begun.cause begun.first) (seat.new).number_is
        (subst (λ z. FollowsScript z.splits z.run w.number most (take 1 bodies) begun.cause begun.first) seat.on begun.follows));
    early = begun.early;
  }

  pub sat_past : {saves : List ℕ} {marks : Savepoints} (clock0 clock k : ℕ) (old new : Shards M S G) (w v : Walker M S G) (a b : Point) (s t : Progress) (bodies : List Body) → IsSeated sh clock0 script k old w s saves marks bodies → BeginsPast clock (seen_in old w a s) (seen_in new v b t)
      → AllByRecursion (λ e. clock < (e.1).stamp) (session_entries (kept v.passes.items))
  sat_past clock0 clock k old new w v a b s t bodies seat past = subst (AllByRecursion (λ e. clock < (e.1).stamp)) (sym (made_all clock0 k old w v s bodies past.more seat past.entries_are)) past.late

-- another walker 0 leaves those behind it
pub behind_first : {X : Type 0} (xs : List X) (x : X) (k : ℕ) (d : X) → get_or (set xs 0 x) (suc k) d ≡ get_or xs (suc k) d
behind_first [] x k d = refl
behind_first (y ∷ ys) x k d = refl

-- ---- in the history

all_before : (clock : ℕ) (first more : History) → AllByRecursion (λ e. (e.1).stamp ≤ clock) first → AllByRecursion (λ e. clock < (e.1).stamp) more → AllByRecursion (λ f. AllByRecursion (λ e. (e.1).stamp < (f.1).stamp) first) more
all_before clock first more early late =
    all_mono (λ f. clock < (f.1).stamp) (λ f. AllByRecursion (λ e. (e.1).stamp < (f.1).stamp) first)
    (λ f past. all_mono (λ e. (e.1).stamp ≤ clock) (λ e. (e.1).stamp < (f.1).stamp) (λ e low. (omega arith)) first early) more late

pub ran_alone :
    (count clock : ℕ) (splits : List ℕ) (run : ℕ) (most : Option ℕ) (bodies : List Body) (h : History) → ((w : ℕ) → (w ≡ 0) ⊎ (count < w) → session_entries (own w h) ≡ [])
    → ((k : ℕ) → 0 < k → k < count → AllByRecursion (λ e. clock < (e.1).stamp) (session_entries (own (suc k) h))) → BeginsWith splits run most bodies clock (session_entries (own 1 h)) → RanAlone splits run most bodies h
ran_alone count clock splits run most bodies h others late b = record { cause = b.cause; first = b.first; rest = b.rest; entries_are = b.entries_are; follows = b.follows; before = before }
  where
    Behind : History → Type 0
    Behind es = AllByRecursion (λ f. AllByRecursion (λ e. (e.1).stamp < (f.1).stamp) b.first) es

    none : (w : ℕ) → session_entries (own w h) ≡ [] → Behind (session_entries (own w h))
    none w is = subst Behind (sym is) tt

    before : (w : ℕ) → w ≢ 1 → Behind (session_entries (own w h))
    before zero other = none 0 (others 0 (inl refl))
    before (suc zero) other = absurd (other refl)
    before (suc (suc k)) other = at (nat_lt (suc k) count) refl
      where
        at : (c : Bool) → nat_lt (suc k) count ≡ c → Behind (session_entries (own (suc (suc k)) h))
        at true is = all_before clock b.first (session_entries (own (suc (suc k)) h)) b.early (late (suc k) (omega arith) (ltb-true (suc k) count is))
        at false is = none (suc (suc k)) (others (suc (suc k)) (inr (let l = ltb-false (suc k) count is in omega arith)))

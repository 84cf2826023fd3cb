-- Sessions of new walkers.
use Rattle.std.proofs.Common.{◌≡◌, ◌∙◌, refl, sym, ap, subst, ℕ, suc, ◌<◌, ◌≤◌, true, ◌&&◌, nat_le, List, [], ◌∷◌, ◌++◌, length, get_or, Option, Some, None, inl, inr, arith}
use Rattle.std.proofs.lemmas.Bool.{lt-ltb, le-leb}
use Rattle.history_replay.specs.Entries.{on_shard, merged, merged_from}
use Rattle.clv_base.specs.Sessions.{no_session, is_session_number}
use Rattle.clv_base.specs.Journals.{History}
use Rattle.script_lang.specs.Bodies.{Body}
use Rattle.script_runs.specs.declared.ends.StopCause.{StopCause}
use Rattle.script_runs.specs.Sessions.{Transaction, FollowsScript, session_entries, tries_of}
use Rattle.script_runs.specs.Ran.{Rise, stamps, serials}
use Rattle.script_runs.specs.Dropped.{AllLetGo}
use Rattle.session_api.specs.Grounds.{HasMissed}
use Rattle.turn_lock.specs.declared.pass.Pass.{Pass}
use Rattle.turn_lock.specs.Passes.{own}
use Rattle.machine_laws.specs.declared.notes.Note.{Note}
use Rattle.machine_laws.specs.declared.notes.Origin.{Origin}
use Rattle.machine_laws.specs.Homes.{entries_in, taker, is_taker}
use Rattle.cluster_turns.specs.declared.shards.Shards.{Shards}
use Rattle.cluster_turns.specs.declared.shards.Walker.{Walker}
use Rattle.cluster_turns.specs.Walkers.{IsWalker, AreNewPasses, founds_of, own_of, own_lists, kept}
use Rattle.cluster_closing.specs.Landed.{HasLanded}
use Rattle.turn_lock.specs.Journals.{entries_by}
use Rattle.machine_laws.specs.Notes.{noter}
use Rattle.cluster_closing.proofs.Laws.{new_pass}
use Rattle.cluster_closing.specs.Held.{HoldsNone}
use Rattle.cluster_closing.proofs.Laws.{new_walkers_hold_none, new_walkers_fetched_none}
use Rattle.cluster_turns.specs.States.{session_of}
use Rattle.cluster_turns.proofs.Laws.{new_are_informed}
use Rattle.session_ops.specs.Standing.{IsReady}
use Rattle.session_ops.specs.Standings.{IsUnasked}
use Rattle.session_api.specs.declared.progress.Progress.{Progress}
use Rattle.session_api.specs.declared.progress.Progress.TheVariants as progress
use Rattle.session_api.specs.Sessions.{StandsIn}
use Rattle.session_api.specs.Laws.{NewWalkersAreSessions, NewWalkersRest, NewWalkersKeepNone, SessionsRest, ScriptsFollow}
use Rattle.law_base.proofs.Lists.{first_elem as a_lock}

-- ---- it keeps nothing so far

module _ {T : Type 0} where
  nothing_kept : (n : ℕ) (ps : List (Option (Pass T Note Origin))) → ((k : ℕ) (d : Option (Pass T Note Origin)) → k < length ps → own_of (get_or ps k d) ≡ []) → merged_from n (own_lists ps) ≡ []
  nothing_kept n [] h = refl
  nothing_kept n (p ∷ ps) h = ap (λ own_entries. merged (on_shard n own_entries) (merged_from (suc n) (own_lists ps))) (h 0 p (omega arith)) ∙ nothing_kept (suc n) ps (λ k d l. h (suc k) d (omega arith))

  none_own : (p : Pass T Note Origin) (o : Option (Pass T Note Origin)) → o ≡ Some p → own p ≡ [] → own_of o ≡ []
  none_own p o is empty = ap own_of is ∙ ap entries_in empty

module _ {M S G : Type 0} where
  keeps_nothing : (sh : Shards M S G) (number : ℕ) (w : Walker M S G) → AreNewPasses sh.splits (founds_of sh) sh.locks.items number w.passes.items → kept w.passes.items ≡ []
  keeps_nothing sh number w new =
      nothing_kept 0 w.passes.items
      (λ k d l. let low : k < length sh.locks.items = (let c = new.count in omega arith) in let t = new.each k d low in none_own t.0 (get_or w.passes.items k d) t.2 (t.3 (a_lock sh.locks.items (omega arith))).4)

  new_landed : (sh : Shards M S G) (number : ℕ) (w : Walker M S G) → AreNewPasses sh.splits (founds_of sh) sh.locks.items number w.passes.items → HasLanded number w.passes.items
  new_landed sh number w new = record {
    own = λ k p is. (let t = new_pass sh.splits (founds_of sh) sh.locks.items number w.passes.items new k p is in t.1 ∙ ap (entries_by noter number) (sym t.0));
    home = λ k p is. ap (λ l. is_taker (taker None (entries_in l)) number) (new_pass sh.splits (founds_of sh) sh.locks.items number w.passes.items new k p is).0;
  }

  ready_new : (sh : Shards M S G) (w : Walker M S G) → IsWalker sh w → AreNewPasses sh.splits (founds_of sh) sh.locks.items w.number w.passes.items → is_session_number w.number ≡ true → IsReady sh w (no_session sh.run w.number)
  ready_new sh w is_walker new number = record {
    walker = is_walker;
    number = number;
    state = ap (session_of sh.splits sh.run w.number) (keeps_nothing sh w.number w new);
    serial = omega arith;
    old = tt;
    informed = new_are_informed sh.splits (founds_of sh) sh.locks.items w.number w.clock w.passes.items new;
  }

  landed_new : (sh : Shards M S G) (number : ℕ) (w : Walker M S G) → w.number ≡ number → AreNewPasses sh.splits (founds_of sh) sh.locks.items number w.passes.items → HasLanded w.number w.passes.items
  landed_new sh number w is new = subst (λ k. HasLanded k w.passes.items) (sym is) (new_landed sh number w new)

  none_new : (sh : Shards M S G) (number : ℕ) (w : Walker M S G) → w.number ≡ number → AreNewPasses sh.splits (founds_of sh) sh.locks.items number w.passes.items → HoldsNone w.number w.passes.items
  none_new sh number w is new = subst (λ k. HoldsNone k w.passes.items) (sym is) (new_walkers_hold_none sh.splits (founds_of sh) sh.locks.items number w.passes.items new)

-- ---- new walkers

numbers_sessions : (number : ℕ) → 1 ≤ number → number ≤ 64 → is_session_number number ≡ true
numbers_sessions number low high = ap (λ b. b && nat_le number 64) (lt-ltb 0 number (omega arith)) ∙ le-leb number 64 high

pub new_walkers_are_sessions : (M S G : Type 0) → NewWalkersAreSessions M S G
new_walkers_are_sessions M S G sh number first w new splits low high = record {
  session =
      record {
        stands = (
          no_session sh.run w.number,
          ready_new sh w new.walker (subst (λ k. AreNewPasses sh.splits (founds_of sh) sh.locks.items k w.passes.items) (sym new.number_is) new.new) (ap is_session_number new.number_is ∙ numbers_sessions number low high),
        );
        landed = landed_new sh number w new.number_is new.new;
      };
  splits = splits;
  fetched = new_walkers_fetched_none sh.splits (founds_of sh) sh.locks.items number w.passes.items new.new;
  disks = none_new sh number w new.number_is new.new;
}

pub new_walkers_keep_none : (M S G : Type 0) → NewWalkersKeepNone M S G
new_walkers_keep_none M S G sh number first w new = keeps_nothing sh number w new.new

pub new_walkers_rest : (M S G : Type 0) → NewWalkersRest M S G
new_walkers_rest M S G sh number first w new = record {
  walker = new.walker;
  number_is = new.number_is;
  landed = landed_new sh number w new.number_is new.new;
  fetched = new_walkers_fetched_none sh.splits (founds_of sh) sh.locks.items number w.passes.items new.new;
  disks = none_new sh number w new.number_is new.new;
}

-- ---- sessions

pub ready_walker : (M S G : Type 0) (sh : Shards M S G) (w : Walker M S G) (s : Progress) → StandsIn sh w s → IsWalker sh w
ready_walker M S G sh w progress.Idle h = (h.1).walker
ready_walker M S G sh w (progress.Active p) h = (h.ready).walker
ready_walker M S G sh w (progress.Worn p) h = unasked_walker h.0
  where
    unasked_walker : IsUnasked sh w p → IsWalker sh w
    unasked_walker (inl active) = (active.ready).walker
    unasked_walker (inr ending) = ((ending.over).ready).walker
ready_walker M S G sh w (progress.Undone p n upto) h = (h.0.ready).walker
ready_walker M S G sh w (progress.Asked p home stamp) h = (h.0.ready).walker
ready_walker M S G sh w (progress.Ended p) h = (h.ready).walker

pub sessions_rest : (M S G : Type 0) → SessionsRest M S G
sessions_rest M S G sh w s h = record {
  walker = ready_walker M S G sh w s (h.session).stands;
  number_is = refl;
  landed = (h.session).landed;
  fetched = h.fetched;
  disks = h.disks;
}

-- the session's entries are all that it had
all_its : (splits : List ℕ) (run walker number : ℕ) (most : Option ℕ) (bodies : List Body) (cause : Option StopCause) (P : List Transaction → Type 0) (es fs : History) → walker ≡ number → fs ≡ es
    → (f : FollowsScript splits run walker most bodies cause es) → P f.transactions → (g : FollowsScript splits run number most bodies cause fs) × P g.transactions
all_its splits run walker number most bodies cause P es fs is same f so =
    subst (λ k. (g : FollowsScript splits run k most bodies cause fs) × P g.transactions) is (subst (λ l. (g : FollowsScript splits run walker most bodies cause l) × P g.transactions) (sym same) (f, so))

pub scripts_follow : (M S G : Type 0) → ScriptsFollow M S G
scripts_follow M S G sh number first base w v a b s t bodies most cause new f =
    let g = f.2 in
    let so : List Transaction → Type 0 = λ trs. Rise first (stamps trs) v.clock × Rise 0 (serials (tries_of trs)) (length (tries_of trs)) × AllLetGo (HasMissed v) v.clock (tries_of trs) in
    let births = subst (λ k. Rise k (stamps (f.1).transactions) v.clock) new.clock_is f.3 in
    let counted = subst (λ k. Rise k (serials (tries_of (f.1).transactions)) (length (tries_of (f.1).transactions))) new.none_begun
    (subst (Rise w.serial (serials (tries_of (f.1).transactions))) (let begun = g.serial_is in let none = new.none_begun in let same : v.serial ≡ length (tries_of (f.1).transactions) = omega arith in same) f.4) in
    let its = all_its sh.splits sh.run w.number number most bodies cause so f.0 (session_entries (kept v.passes.items)) new.number_is
    (g.entries_are ∙ ap (λ l. session_entries l ++ f.0) (keeps_nothing sh number w new.new)) f.1 (births, counted, f.5) in
    (g.walker_is ∙ new.number_is, (its.0, (its.1).0, (its.1).1, (its.1).2))

-- Walkers between the calls of their sessions.
use Rattle.std.proofs.Common.{arith, ◌≡◌, ◌∙◌, sym, ap, subst, ℕ, zero, suc, ◌<◌, ◌≤◌, ◌+◌, ◌-◌, true, List, [], ◌∷◌, ◌++◌, take, length, get_or, set, None, Result}
use Rattle.clv_base.specs.Shards.{are_splits}
use Rattle.cluster_turns.specs.declared.home.Home.{Home}
use Rattle.cluster_turns.specs.declared.shards.Shards.{Shards}
use Rattle.cluster_turns.specs.declared.shards.Walker.{Walker}
use Rattle.cluster_turns.specs.Walkers.{IsWalker, IsSameWalker}
use Rattle.cluster_turns.specs.declared.tending.DrainError.{DrainError}
use Rattle.cluster_turns.specs.Rounds.{DrainTold}
use Rattle.cluster_closing.specs.Landed.{HasLanded}
use Rattle.cluster_closing.specs.EndLaws.{DrainsLand}
use Rattle.cluster_closing.specs.Held.{HoldsNone}
use Rattle.cluster_closing.proofs.Laws.{drains_hold_none, drains_fetch_none}
use Rattle.cluster_opening.specs.Made.{IsNewWalker}
use Rattle.session_api.specs.declared.progress.Progress.{Progress}
use Rattle.session_api.specs.declared.progress.Progress.TheVariants.{Idle}
use Rattle.session_api.specs.Sessions.{IsSession}
use Rattle.session_api.specs.Standing.{Holds, IsAtRest}
use Rattle.session_api.proofs.Laws.{sessions_rest, new_walkers_are_sessions, new_walkers_rest}
use Rattle.session_examples.specs.Later.{IsLater}
use Rattle.session_examples.specs.Walkers.{AreNew, IsAtHome, AreAtHome, AreAtRest}
use Rattle.session_examples.proofs.Lists.{each_back, each_at}

module _ {M S G : Type 0} (sh : Shards M S G) where
  -- a session's walker after its calls
  pub holds_later : (w v : Walker M S G) (s t : Progress) → Holds sh w s → IsSession sh v t → IsLater w v → Holds sh v t
  holds_later w v s t h session later = record { session = session; splits = h.splits; fetched = later.fetched h.fetched; disks = later.disks h.disks }

  pub rests_as : (number : ℕ) (w : Walker M S G) (s : Progress) → Holds sh w s → w.number ≡ number → IsAtRest sh number w
  rests_as number w s h is = let r = sessions_rest M S G sh w s h in record { walker = r.walker; number_is = is; landed = r.landed; fetched = r.fetched; disks = r.disks }

  pub home_of : (number : ℕ) (w : Walker M S G) → IsAtRest sh number w → IsAtHome sh number w
  home_of number w rest = record { walker = rest.walker; number_is = rest.number_is; landed = rest.landed; disks = rest.disks }

  pub all_home : (walkers : List (Walker M S G)) → AreAtRest sh walkers → AreAtHome sh walkers
  all_home walkers rest = λ k d l. home_of k (get_or walkers k d) (rest k d l)

  pub renumbered : (k : ℕ) (w v : Walker M S G) → IsAtRest sh w.number v → w.number ≡ k → IsAtRest sh k v
  renumbered k w v rest is = subst (λ n. IsAtRest sh n v) is rest

  pub own_rest : (k : ℕ) (w : Walker M S G) → IsAtRest sh k w → IsAtRest sh w.number w
  own_rest k w rest = subst (λ n. IsAtRest sh n w) (sym rest.number_is) rest

  -- a new walker behind walker 0 may have a session
  pub holds_new : (number first n : ℕ) (w : Walker M S G) → IsNewWalker sh n first w → n ≡ number → are_splits sh.splits ≡ true → 1 ≤ number → number ≤ 64 → Holds sh w Idle
  holds_new number first n w new is splits low high = new_walkers_are_sessions M S G sh number first w (subst (λ k. IsNewWalker sh k first w) is new) splits low high

  pub rest_new : (k first : ℕ) (w : Walker M S G) → IsNewWalker sh k first w → IsAtRest sh k w
  rest_new k first w new = new_walkers_rest M S G sh k first w new

  -- after a drain
  pub drained : DrainsLand (Home M S G) → (number : ℕ) (w v : Walker M S G) (r : Result Unit DrainError) → IsAtRest sh number w → IsWalker sh v × IsSameWalker w v → DrainTold (length sh.locks.items) w.number w.clock w.passes.items r v.clock v.passes.items
      → IsAtRest sh number v
  drained lands number w v r rest walks told = record {
    walker = walks.0;
    number_is = walks.1.0 ∙ rest.number_is;
    landed = subst (λ n. HasLanded n v.passes.items) (sym walks.1.0) (lands (length sh.locks.items) w.number w.clock w.passes.items r v.clock v.passes.items told rest.landed);
    fetched = drains_fetch_none (length sh.locks.items) w.number w.clock w.passes.items r v.clock v.passes.items told rest.fetched;
    disks = subst (λ n. HoldsNone n v.passes.items) (sym walks.1.0) (drains_hold_none None (length sh.locks.items) w.number w.clock w.passes.items r v.clock v.passes.items told rest.disks);
  }

  -- all are at rest: new ones, and where the last one has left and come again
  pub all_new : (first : ℕ) (ws : List (Walker M S G)) → AreNew sh first ws → AreAtRest sh ws
  all_new first ws new = λ k d l. rest_new k first (get_or ws k d) (new k d l)

  pub all_rest : (ws us vs : List (Walker M S G)) (n : ℕ) (v : Walker M S G) → n ≡ length ws → 1 ≤ n → us ≡ take (n - 1) ws → vs ≡ us ++ v ∷ [] → AreAtRest sh ws → IsAtRest sh (n - 1) v → AreAtRest sh vs
  all_rest ws us vs n v many some left came rest back = each_back (λ k w. IsAtRest sh k w) ws us vs n v many some left came rest back

  -- one that is at rest still stands in its place
  pub rest_at : (ws : List (Walker M S G)) (n : ℕ) (v : Walker M S G) → AreAtRest sh ws → IsAtRest sh n v → AreAtRest sh (set ws n v)
  rest_at ws n v rest new = each_at (λ k w. IsAtRest sh k w) ws n v rest new

  pub sat_number : (ws : List (Walker M S G)) (m first : ℕ) (o v : Walker M S G) → AreNew sh first ws → m < length ws → o ≡ get_or ws m o → v.number ≡ o.number → v.number ≡ m
  sat_number ws m first o v new low is same = same ∙ (ap (λ w. w.number) is ∙ (new m o low).number_is)

  -- of two the second one has left and come again, and the first one has gone on
  pub two_home : (ws us vs : List (Walker M S G)) (n : ℕ) (w v : Walker M S G) → n ≡ length ws → n ≡ 2 → us ≡ take (n - 1) ws → vs ≡ set us 0 w ++ v ∷ [] → IsAtHome sh 0 w → IsAtHome sh 1 v → AreAtHome sh vs
  two_home [] us vs n w v many two left came first second = absurd (omega arith)
  two_home (x ∷ ws) us vs n w v many two left came first second = subst (λ l. AreAtHome sh l) (sym (came ∙ ap (λ l. set l 0 w ++ v ∷ []) (left ∙ ap (λ m. take (m - 1) (x ∷ ws)) two))) both
    where
      both : AreAtHome sh (w ∷ v ∷ [])
      both zero d l = first
      both (suc zero) d l = second
      both (suc (suc k)) d l = absurd (omega arith)

  -- walker 0 and those of seats
  pub all_behind : (ws : List (Walker M S G)) (n : ℕ) → length ws ≡ n + 1 → ((d : Walker M S G) → IsAtRest sh 0 (get_or ws 0 d)) → ((k : ℕ) (d : Walker M S G) → k < n → IsAtRest sh (suc k) (get_or ws (suc k) d)) → AreAtRest sh ws
  all_behind ws n many first others zero d l = first d
  all_behind ws n many first others (suc k) d l = others k d (omega arith)

-- A walker that fetches the disk of a shard and restarts it.
use Rattle.std.proofs.Common.{◌≡◌, ◌∙◌, sym, subst, ℕ, Option, Some, None, Result, Ok, Err}
use Rattle.io_model.specs.Sides.{Stories}
use Rattle.cluster_closing.specs.declared.error.RestartError.{RestartError}
use Rattle.cluster_turns.specs.declared.shards.Shards.{Shards}
use Rattle.cluster_turns.specs.declared.shards.Walker.{Walker}
use Rattle.cluster_turns.specs.Walkers.{IsWalker, IsSameWalker, Walked}
use Rattle.cluster_closing.specs.Landed.{HasLanded}
use Rattle.cluster_closing.specs.declared.fetching.FetchError.{FetchError}
use Rattle.cluster_closing.specs.declared.fetching.Fetched.{Fetched}
use Rattle.cluster_closing.specs.EndHeld.{FetchTold}
use Rattle.cluster_closing.specs.Held.{HoldsNone, HoldsNoneBut}
use Rattle.cluster_closing.proofs.Laws.{fetches_hold_one, refused_fetches_hold_none}
use Rattle.cluster_closing.specs.Restarted.{RestartTold}
use Rattle.cluster_closing.proofs.Laws.{fetches_land, restarts_land, restarts_end_holding}
use Rattle.session_examples.specs.Walkers.{IsAtHome}

module _ {M S G : Type 0} (sh : Shards M S G) where
  -- it has the disk of shard n at most
  pub record HasOneDisk (n number : ℕ) (w : Walker M S G) : Type 0 where
    pub walker : IsWalker sh w
    pub number_is : w.number ≡ number
    pub landed : HasLanded w.number w.passes.items
    pub others : HoldsNoneBut (Some n) w.number w.passes.items

  pub one_fetched : {D : Type 0} (n number : ℕ) (w v : Walker M S G) (r : Result (Fetched D) FetchError) → IsAtHome sh number w → IsWalker sh v × IsSameWalker w v → Walked (FetchTold w.number r) n w.number w.passes.items v.passes.items → HasOneDisk n number v
  one_fetched n number w v r home walks told = record {
    walker = walks.0;
    number_is = walks.1.0 ∙ home.number_is;
    landed = subst (λ k. HasLanded k v.passes.items) (sym walks.1.0) (fetches_land w.clock w.number n r w.passes.items v.passes.items told home.landed);
    others = subst (λ k. HoldsNoneBut (Some n) k v.passes.items) (sym walks.1.0) (fetches_hold_one w.number n r w.passes.items v.passes.items told home.disks);
  }

  pub none_fetched : {D : Type 0} (n number : ℕ) (w v : Walker M S G) (r : Result (Fetched D) FetchError) (e : FetchError) → r ≡ Err e → IsAtHome sh number w → IsWalker sh v × IsSameWalker w v → Walked (FetchTold w.number r) n w.number w.passes.items v.passes.items
      → IsAtHome sh number v
  none_fetched {D = D} n number w v r e is home walks told = record {
    walker = walks.0;
    number_is = walks.1.0 ∙ home.number_is;
    landed = subst (λ k. HasLanded k v.passes.items) (sym walks.1.0) (fetches_land w.clock w.number n r w.passes.items v.passes.items told home.landed);
    disks =
        subst (λ k. HoldsNone k v.passes.items) (sym walks.1.0)
        (refused_fetches_hold_none (Fetched D) None w.number n e w.passes.items v.passes.items (subst (λ x. Walked (FetchTold {D = Fetched D} w.number x) n w.number w.passes.items v.passes.items) is told) home.disks);
  }

  module _ {D : Type 0} (story : D → Option Stories) (f : Fetched D) (n number : ℕ) (w v : Walker M S G) (one : HasOneDisk n number w) (at : f.shard ≡ n) (walks : IsWalker sh v × IsSameWalker w v) where
    held_at : HoldsNoneBut (Some f.shard) w.number w.passes.items
    held_at = subst (λ k. HoldsNoneBut (Some k) w.number w.passes.items) (sym at) one.others

    pub refused_again : (e : RestartError × Fetched D) → RestartTold story sh.splits sh.run f w.number w.clock w.passes.items (Err e) v.clock v.passes.items → HasOneDisk n number v
    refused_again e told = record {
      walker = walks.0;
      number_is = walks.1.0 ∙ one.number_is;
      landed = subst (λ k. HasLanded k v.passes.items) (sym walks.1.0) (restarts_land story sh.splits sh.run f w.number w.clock w.passes.items (Err e) v.clock v.passes.items told one.landed);
      others =
          subst (λ k. HoldsNoneBut (Some n) k v.passes.items) (sym walks.1.0)
          (subst (λ k. HoldsNoneBut (Some k) w.number v.passes.items) at (restarts_end_holding story sh.splits sh.run f w.number w.clock w.passes.items (Err e) v.clock v.passes.items told held_at));
    }

    pub restarted : (epoch : ℕ) → RestartTold story sh.splits sh.run f w.number w.clock w.passes.items (Ok epoch) v.clock v.passes.items → IsAtHome sh number v
    restarted epoch told = record {
      walker = walks.0;
      number_is = walks.1.0 ∙ one.number_is;
      landed = subst (λ k. HasLanded k v.passes.items) (sym walks.1.0) (restarts_land story sh.splits sh.run f w.number w.clock w.passes.items (Ok epoch) v.clock v.passes.items told one.landed);
      disks = subst (λ k. HoldsNone k v.passes.items) (sym walks.1.0) (restarts_end_holding story sh.splits sh.run f w.number w.clock w.passes.items (Ok epoch) v.clock v.passes.items told held_at);
    }

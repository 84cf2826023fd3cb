-- A world as the definitions see it, and what holds of it.
use Rattle.std.specs.Prelude.{◌≡◌, ℕ, true, List, map, Option}
use Rattle.std.specs.List.{AllByRecursion, list_all}
use Rattle.clv_base.specs.Shards.{shard_count}
use Rattle.clv_base.specs.State.{Shard}
use Rattle.clv_base.specs.Core.{World as CoreWorld}
use Rattle.clv_base.specs.Journals.{History}
use Rattle.journal_laws.specs.Worlds.{Steady, empty_logs}
use Rattle.interleaving_core.specs.Listed.{Listed}
use Rattle.machine_calls.specs.Events.{sends_fit}
use Rattle.interleaving_core.specs.declared.seat.Seat.{Seat}
use Rattle.interleaving_core.specs.Seated.{IsSeated}
use Rattle.interleaving_core.specs.declared.world.World.{World}

-- all that was sent may be delivered
abbrev pub AllFit : History → Type 0
AllFit h = list_all (λ e. sends_fit (e.1).outcome) h ≡ true

module _ {M : Type 0} (shard : M → Shard) where
  abbrev pub shards_of : List (Seat M) → List Shard
  shards_of seats = map (λ s. shard s.machine) seats

  abbrev pub world_by : List (Seat M) → History → CoreWorld
  world_by seats h = record { shards = shards_of seats; history = h }

  abbrev pub as_world : World M → CoreWorld
  as_world w = world_by w.seats.items w.history.items

module _ {M : Type 0} (shard : M → Shard) (gate : M → Option Listed) where
  abbrev pub IsSeat : Seat M → Type 0
  IsSeat s = IsSeated (shard s.machine) (gate s.machine) s.air

  -- each gate is where it should be, and the world is one in which the rules were kept
  pub record AreSound (splits : List ℕ) (seats : List (Seat M)) (h : History) : Type 0 where
    pub steady : Steady splits (empty_logs (shard_count splits)) (world_by shard seats h)
    pub each_seat : AllByRecursion IsSeat seats
    pub sent : AllFit h

  abbrev pub IsSound : List ℕ → World M → Type 0
  IsSound splits w = AreSound splits w.seats.items w.history.items

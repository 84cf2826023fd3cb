-- The memory of a cluster's end.
use Rattle.std.specs.Prelude.{◌≡◌, ℕ, ◌≤◌, vec_len, vec_capacity}
use Rattle.std.specs.List.{All}
use Rattle.cluster_closing.specs.declared.memory.Room.{Room}

module _ {M S G : Type 0} where
  -- empty lists of passes, one a shard, each with room for those of so many walkers; the other lists are empty, with room for all shards
  pub record HasRoom (shards walkers : ℕ) (room : Room M S G) : Type 0 where
    pub passes : (vec_len room.passes ≡ shards) × All (λ r. (vec_len r ≡ 0) × (walkers ≤ vec_capacity r)) room.passes.items
    pub homes : (vec_len room.homes ≡ 0) × (shards ≤ vec_capacity room.homes)
    pub journals : (vec_len room.journals ≡ 0) × (shards ≤ vec_capacity room.journals)
    pub maps : (vec_len room.maps ≡ 0) × (shards ≤ vec_capacity room.maps)

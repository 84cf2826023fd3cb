-- What a cluster's end gives together.
use Rattle.std.specs.Prelude.{◌≡◌, ℕ, ◌<◌, ◌^◌, true, cond, ◌==◌, List, [], ◌∷◌, length, Some, None, slice_get}
use Rattle.clv_base.specs.declared.logs.LogRecord.{LogRecord}
use Rattle.clv_base.specs.declared.events.Entry.{Entry}
use Rattle.clv_base.specs.Shards.{shard_count, are_splits}
use Rattle.clv_base.specs.State.{Shard}
use Rattle.clv_base.specs.Restarts.{run_after}
use Rattle.clv_base.specs.Journals.{start_of}
use Rattle.cluster_turns.specs.declared.shards.Shards.{Shards}
use Rattle.cluster_turns.specs.declared.shards.Walker.{Walker}
use Rattle.cluster_turns.specs.Walkers.{own_lists, founds_of}

-- the state of shard n, by that of each value
abbrev pub state_at : {H : Type 0} → (H → Shard) → List (List LogRecord) → List H → ℕ → Shard
state_at state founds homes n = elim (slice_get homes n) [ Some h ↦ state h | None ↦ start_of founds n ]

module _ {M S G : Type 0} where
  -- as opening leaves them: the splits rise, and each shard found a log
  pub record AreShards (sh : Shards M S G) : Type 0 where
    pub splits_rise : are_splits sh.splits ≡ true
    pub each_log : length (founds_of sh) ≡ shard_count sh.splits
    pub run_fits : run_after (founds_of sh) < 2 ^ 32

  -- the own entries of the walker of this number, shard by shard
  abbrev pub views_of : List (Walker M S G) → ℕ → List (List Entry)
  views_of [] w = []
  views_of (v ∷ vs) w = cond (v.number == w) (own_lists v.passes.items) (views_of vs w)

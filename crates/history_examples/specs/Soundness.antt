-- The states of the examples are sound.
use Rattle.clv_base.specs.declared.values.Value.TheVariants.{Num}
use Rattle.clv_base.specs.Core.{World}
use Rattle.clv_base.specs.Invariants.{covers, is_sound}
use Rattle.clv_base.specs.State.{Shard}
use Rattle.clv_base.specs.declared.events.Event.TheVariants.{Stop}
use Rattle.clv_base.specs.declared.names.TxId.{TxId}
use Rattle.clv_base.specs.declared.ops.Op.TheVariants.{Put}
use Rattle.history_examples.specs.Cascades.{chain, gap_split}
use Rattle.history_examples.specs.Crashes.{violated_then_stopped}
use Rattle.history_examples.specs.InDoubt.{prepared_found, prepared_lost, violated_prepared}
use Rattle.history_examples.specs.Playing.{Act, Carry_from, Event_at, Played, Restart_at, act_by, first, look, new_world, next, request, tx}
use Rattle.history_examples.specs.Repeats.{repeats}
use Rattle.history_examples.specs.Scans.{scans}
use Rattle.history_examples.specs.Waiting.{old_waits}
use Rattle.std.specs.List.{list_all}
use Rattle.std.specs.Prelude.{Bool, List, None, Option, Some, [], false, slice_get, true, ℕ, ◌&&◌, ◌++◌, ◌∷◌, ◌≡◌}

abbrev pub covers_in : TxId → ℕ → Option Shard → Bool
covers_in t k None = false
covers_in t k (Some s) = covers s t k

abbrev pub covers_at : World → ℕ → TxId → ℕ → Bool
covers_at w n t k = covers_in t k (slice_get w.shards n)

abbrev pub sound_after : List Act → Played → Bool
sound_after [] p = list_all is_sound p.world.shards
sound_after (a ∷ rest) p = let q = act_by None p a in list_all is_sound q.world.shards && sound_after rest q

abbrev pub gap_acts : List Act
gap_acts =
    first 1 1 0 1 (Put 5 (Num 10)) ∷ next 1 1 1 1 2 (Put 60 (Num 6)) ∷ request 1 1 0 ((0, 0) ∷ (1, 0) ∷ []) ∷ first 2 1 0 2 (Put 7 (Num 70)) ∷
    Event_at 0 1 Stop ∷ Restart_at 0 1 false ∷ Carry_from 0 0 ∷ Carry_from 0 1 ∷ look 1 1 0 ∷ []

abbrev pub Sound_small : Type 0
Sound_small =
    (sound_after (violated_then_stopped ++ Restart_at 0 0 true ∷ []) (new_world 1) ≡ true)
    × (sound_after gap_acts (new_world 2) ≡ true)
    × (list_all (λ k. covers_at gap_split.world 0 (tx 2 1) k) (6 ∷ 7 ∷ 8 ∷ []) ≡ true) × (covers_at gap_split.world 0 (tx 2 1) 5 ≡ false)

abbrev pub Sound_wide : Type 0
Sound_wide = (sound_after violated_prepared (new_world 3) ≡ true)

abbrev pub Sound_ends : Type 0
Sound_ends =
    (list_all is_sound prepared_lost.world.shards ≡ true) × (list_all is_sound prepared_found.world.shards ≡ true) × (list_all is_sound chain.world.shards ≡ true)
    × (list_all is_sound repeats.world.shards ≡ true) × (list_all is_sound scans.world.shards ≡ true) × (list_all is_sound old_waits.world.shards ≡ true)

-- One slot is changed.
use Rattle.std.proofs.Common.{false, ◌≡◌, ◌≢◌, ℕ, zero, suc, ◌<◌, List, [], ◌∷◌, length, Some, None, refl, ap, arith}
use Rattle.std.specs.List.{slice_get, slice_set}
use Rattle.disk_memory.specs.declared.house.Slot.{Slot}
use Rattle.disk_memory.specs.House.{faults_at, is_out_at, story_at}

pub get_same : {X : Type 0} (xs : List X) (i : ℕ) (v : X) → i < length xs → slice_get (slice_set xs i v) i ≡ Some v
get_same [] i v inside = absurd (omega arith)
get_same (x ∷ xs) zero v inside = refl
get_same (x ∷ xs) (suc i) v inside = get_same xs i v (omega arith)

pub get_other : {X : Type 0} (xs : List X) (i k : ℕ) (v : X) → k ≢ i → slice_get (slice_set xs i v) k ≡ slice_get xs k
get_other [] zero k v other = refl
get_other [] (suc i) k v other = refl
get_other (x ∷ xs) zero zero v other = absurd (other refl)
get_other (x ∷ xs) zero (suc k) v other = refl
get_other (x ∷ xs) (suc i) zero v other = refl
get_other (x ∷ xs) (suc i) (suc k) v other = get_other xs i k v (λ e. other (ap suc e))

-- no disk is there, and none was
abbrev pub IsEmptyAt : List Slot → ℕ → Type 0
IsEmptyAt slots shard =
    (story_at slots shard 0 ≡ None) × (story_at slots shard 1 ≡ None) × (is_out_at slots shard 0 ≡ false) × (is_out_at slots shard 1 ≡ false) × (faults_at slots shard ≡ 0)

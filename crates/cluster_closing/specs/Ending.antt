-- What the notes of a shard are at the end of a cluster.
use Rattle.std.specs.Prelude.{◌≡◌, ◌≢◌, ℕ, ◌<◌, List, [], length, slice_index_or, Option, Some, None}
use Rattle.turn_lock.specs.Journals.{StartsWith, entries_by}
use Rattle.turn_lock.specs.declared.pass.TurnLock.{TurnLock}
use Rattle.turn_lock.specs.declared.pass.Pass.{Pass}
use Rattle.turn_lock.specs.Passes.{number, pass_origin, seen, own, IsPassOf}
use Rattle.machine_laws.specs.declared.notes.Note.{Note}
use Rattle.machine_laws.specs.declared.notes.Origin.{Origin}
use Rattle.machine_laws.specs.Notes.{noter}
use Rattle.cluster_turns.specs.declared.shards.Walker.{Walker}

module _ {T : Type 0} where
  abbrev pub HasPassAt : ℕ → List (Option (Pass T Note Origin)) → Type 0
  HasPassAt n passes = (p : Pass T Note Origin) × ((d : Option (Pass T Note Origin)) → slice_index_or passes n d ≡ Some p)

  -- and it is of the walker w on the lock at n
  abbrev pub HasPassOf : List (TurnLock T Note Origin) → ℕ → ℕ → List (Option (Pass T Note Origin)) → Type 0
  HasPassOf locks w n passes =
      (p : Pass T Note Origin) × ((d : Option (Pass T Note Origin)) → slice_index_or passes n d ≡ Some p) × ((l : TurnLock T Note Origin) → IsPassOf (slice_index_or locks n l) p) × (number p ≡ w)

  abbrev pub seen_of : Option (Pass T Note Origin) → List Note
  seen_of None = []
  seen_of (Some p) = seen p

  abbrev pub own_notes : Option (Pass T Note Origin) → List Note
  own_notes None = []
  own_notes (Some p) = own p

  abbrev pub origin_of : Option (Pass T Note Origin) → Option Origin
  origin_of None = None
  origin_of (Some p) = pass_origin p

module _ {M S G : Type 0} where
  -- they begin with what each walker has seen there; the notes of each number are its walker's own, and no other number has any
  pub record ClosedAt (walkers : List (Walker M S G)) (n : ℕ) (origin : Origin) (notes : List Note) : Type 0 where
    pub seen_is : (k : ℕ) (d : Walker M S G) → k < length walkers → StartsWith notes (seen_of (slice_index_or (slice_index_or walkers k d).passes.items n None))
    pub own_is : (k : ℕ) (d : Walker M S G) → k < length walkers → entries_by noter (slice_index_or walkers k d).number notes ≡ own_notes (slice_index_or (slice_index_or walkers k d).passes.items n None)
    pub others : (w : ℕ) → ((k : ℕ) (d : Walker M S G) → k < length walkers → (slice_index_or walkers k d).number ≢ w) → entries_by noter w notes ≡ []
    pub origin_is : (k : ℕ) (d : Walker M S G) → k < length walkers → origin_of (slice_index_or (slice_index_or walkers k d).passes.items n None) ≡ Some origin

-- A walker whose gates are home.
use Rattle.std.specs.Prelude.{◌≡◌, ℕ, false, List, Option, Some, None, slice_index_or}
use Rattle.turn_lock.specs.Journals.{entries_by}
use Rattle.turn_lock.specs.declared.pass.Pass.{Pass}
use Rattle.turn_lock.specs.Passes.{seen, own}
use Rattle.machine_laws.specs.declared.notes.Note.{Note}
use Rattle.machine_laws.specs.declared.notes.Origin.{Origin}
use Rattle.machine_laws.specs.Notes.{noter}
use Rattle.machine_laws.specs.Homes.{entries_in, taker, is_taker}

module _ {T : Type 0} where
  -- what the pass of shard k is
  abbrev pub EachPass : (ℕ → Pass T Note Origin → Type 0) → List (Option (Pass T Note Origin)) → Type 0
  EachPass P passes = (k : ℕ) (p : Pass T Note Origin) → ((d : Option (Pass T Note Origin)) → slice_index_or passes k d ≡ Some p) → P k p

  -- its own notes are those of its number among all that it has seen
  abbrev pub HasOwn : ℕ → Pass T Note Origin → Type 0
  HasOwn w p = own p ≡ entries_by noter w (seen p)

  -- as it has seen the shard, the walker w has not its gate
  abbrev pub IsHome : ℕ → Pass T Note Origin → Type 0
  IsHome w p = is_taker (taker None (entries_in (seen p))) w ≡ false

  -- the walker w has the gate of no shard
  pub record HasLanded (w : ℕ) (passes : List (Option (Pass T Note Origin))) : Type 0 where
    pub own : EachPass (λ k. HasOwn w) passes
    pub home : EachPass (λ k. IsHome w) passes

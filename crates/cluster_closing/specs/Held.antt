-- Which disks a walker has.
use Rattle.std.specs.Prelude.{◌≢◌, ⊤, ℕ, Bool, not, List, [], ◌∷◌, Option, Some, None}
use Rattle.std.specs.List.{list_all}
use Rattle.clv_base.specs.declared.events.Entry.{Entry}
use Rattle.journal_laws.specs.Notes.{ends_holding}
use Rattle.turn_lock.specs.declared.pass.Pass.{Pass}
use Rattle.turn_lock.specs.Passes.{seen, own}
use Rattle.machine_laws.specs.declared.notes.Note.{Note}
use Rattle.machine_laws.specs.declared.notes.Note.TheVariants.{Made, Fetched}
use Rattle.machine_laws.specs.declared.notes.Origin.{Origin}
use Rattle.machine_laws.specs.Homes.{holder_of}
use Rattle.cluster_closing.specs.Landed.{EachPass}

-- none of the notes says that a disk was taken
abbrev pub AreMade : List Note → Type 0
AreMade [] = ⊤
AreMade (Made e log ∷ ns) = AreMade ns
AreMade (Fetched w ∷ ns) = ⊥

-- no entry is a restart's
abbrev pub never_restarts : List Entry → Bool
never_restarts es = list_all (λ e. not (ends_holding e.event)) es

module _ {T : Type 0} where
  -- as it has seen the shard, the walker w has not its disk
  abbrev pub HasNoDisk : ℕ → Pass T Note Origin → Type 0
  HasNoDisk w p = holder_of (seen p) ≢ Some w

  -- the walker w has the disk of no shard, but maybe of this one
  abbrev pub HoldsNoneBut : Option ℕ → ℕ → List (Option (Pass T Note Origin)) → Type 0
  HoldsNoneBut but w passes = EachPass (λ k p. Some k ≢ but → HasNoDisk w p) passes

  -- of none
  abbrev pub HoldsNone : ℕ → List (Option (Pass T Note Origin)) → Type 0
  HoldsNone w passes = HoldsNoneBut None w passes

  -- the walker never took a disk
  abbrev pub FetchedNone : List (Option (Pass T Note Origin)) → Type 0
  FetchedNone passes = EachPass (λ k p. AreMade (own p)) passes

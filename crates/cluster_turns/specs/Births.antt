-- What a walker's passes know of births.
use Rattle.std.specs.Prelude.{◌≡◌, ⊤, ℕ, ◌≤◌, List, Option, Some, None, slice_index_or}
use Rattle.std.specs.List.{AllByRecursion}
use Rattle.clv_base.specs.declared.names.TxId.{TxId}
use Rattle.clv_base.specs.declared.names.Birth.{Birth}
use Rattle.clv_base.specs.declared.ops.Op.TheVariants.{Get}
use Rattle.clv_base.specs.declared.events.Event.{Event}
use Rattle.clv_base.specs.declared.events.Event.TheVariants.{Op}
use Rattle.clv_base.specs.State.{Shard}
use Rattle.turn_lock.specs.declared.pass.Pass.{Pass}
use Rattle.turn_lock.specs.Journals.{entries_by}
use Rattle.turn_lock.specs.Passes.{seen, own, pass_origin}
use Rattle.machine_laws.specs.declared.notes.Note.{Note}
use Rattle.machine_laws.specs.declared.notes.Origin.{Origin}
use Rattle.machine_laws.specs.Notes.{noter}
use Rattle.machine_laws.specs.Homes.{entries_in, state_of, IsFree, IsLegal}

-- while the shard is up, no other transaction has an active part of this birth
abbrev pub IsFreeFor : TxId → Birth → Shard → Type 0
IsFreeFor tx birth s = IsFree s (Op tx birth 0 None (Get 0))

-- an operation's birth has a stamp up to the clock
abbrev pub IsBornBy : ℕ → Event → Type 0
IsBornBy clock (Op tx birth nth seen op) = birth.stamp ≤ clock
IsBornBy clock _ = ⊤

module _ {T : Type 0} where
  -- each pass of these
  abbrev pub EachPass : (Pass T Note Origin → Type 0) → List (Option (Pass T Note Origin)) → Type 0
  EachPass P passes = (n : ℕ) (p : Pass T Note Origin) → ((d : Option (Pass T Note Origin)) → slice_index_or passes n d ≡ Some p) → P p

  -- as it has seen its shard, this birth is free for the transaction
  abbrev pub SeesFree : TxId → Birth → Pass T Note Origin → Type 0
  SeesFree tx birth p = (o : Origin) → pass_origin p ≡ Some o → IsFreeFor tx birth (state_of o (seen p))

  abbrev pub AllSeeFree : TxId → Birth → List (Option (Pass T Note Origin)) → Type 0
  AllSeeFree tx birth passes = EachPass (SeesFree tx birth) passes

  -- what it has seen tells a state of its shard, its own notes are among that, and no operation of its own has a birth past the clock
  pub record IsInformed (w clock : ℕ) (p : Pass T Note Origin) : Type 0 where
    pub legal : (o : Origin) → pass_origin p ≡ Some o → IsLegal o (seen p) (state_of o (seen p))
    pub own_seen : own p ≡ entries_by noter w (seen p)
    pub born : AllByRecursion (λ e. IsBornBy clock e.event) (entries_in (own p))

  abbrev pub AreInformed : ℕ → ℕ → List (Option (Pass T Note Origin)) → Type 0
  AreInformed w clock passes = EachPass (IsInformed w clock) passes

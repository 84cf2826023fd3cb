-- How far a shard's epoch is, as a walker's pass has seen it.
use Rattle.std.specs.Prelude.{◌≡◌, ℕ, ◌<◌, ◌≤◌, true, List, [], ◌∷◌, Option, Some, Ok, slice_index_or}
use Rattle.clv_base.specs.declared.names.TxId.{TxId}
use Rattle.clv_base.specs.declared.names.Birth.{Birth}
use Rattle.clv_base.specs.declared.ops.Op.{Op as Operation}
use Rattle.clv_base.specs.declared.ops.Answer.{Answer}
use Rattle.clv_base.specs.declared.events.Event.TheVariants.{Op, RollTo}
use Rattle.clv_base.specs.declared.events.Outcome.TheVariants.{Answered, Rolled, Down}
use Rattle.clv_base.specs.State.{Shard}
use Rattle.turn_lock.specs.declared.pass.Pass.{Pass}
use Rattle.turn_lock.specs.Passes.{seen, pass_origin}
use Rattle.machine_laws.specs.declared.notes.Note.{Note}
use Rattle.machine_laws.specs.declared.notes.Origin.{Origin}
use Rattle.machine_laws.specs.Homes.{state_of}
use Rattle.cluster_turns.specs.CallTurns.{Turn, Took}

-- it is this one or a later one
abbrev pub HasReached : ℕ → Shard → Type 0
HasReached epoch s = epoch ≤ s.local.epoch

-- and while the shard is up a later one
abbrev pub IsPast : ℕ → Shard → Type 0
IsPast epoch s = HasReached epoch s × (s.is_up ≡ true → epoch < s.local.epoch)

module _ {T : Type 0} where
  -- so the pass of shard n has seen it
  abbrev pub SeenAt : (Shard → Type 0) → ℕ → List (Option (Pass T Note Origin)) → Type 0
  SeenAt P n passes = (p : Pass T Note Origin) → ((d : Option (Pass T Note Origin)) → slice_index_or passes n d ≡ Some p) → (o : Origin) → pass_origin p ≡ Some o → P (state_of o (seen p))

  abbrev pub ReachedAt : ℕ → ℕ → List (Option (Pass T Note Origin)) → Type 0
  ReachedAt n epoch passes = SeenAt (HasReached epoch) n passes

  abbrev pub PastAt : ℕ → ℕ → List (Option (Pass T Note Origin)) → Type 0
  PastAt n epoch passes = SeenAt (IsPast epoch) n passes

-- ---- laws

abbrev pub ReachedStays : Type 0 → Type 0
ReachedStays T = (n w c d epoch : ℕ) (ps qs : List (Option (Pass T Note Origin))) (ts : List Turn) → Took w c ps ts d qs → ReachedAt n epoch ps → ReachedAt n epoch qs

abbrev pub PastStays : Type 0 → Type 0
PastStays T = (n w c d epoch : ℕ) (ps qs : List (Option (Pass T Note Origin))) (ts : List Turn) → Took w c ps ts d qs → PastAt n epoch ps → PastAt n epoch qs

-- a shard that answered an operation has reached the epoch of its answer
abbrev pub AnsweredIsReached : Type 0 → Type 0
AnsweredIsReached T =
    (n w c d : ℕ) (ps qs : List (Option (Pass T Note Origin))) (t : Turn) (tx : TxId) (birth : Birth) (nth : ℕ) (sn : Option ℕ) (op : Operation) (answer : Answer) (epoch : ℕ) → Took w c ps (t ∷ []) d qs → t.shard ≡ n → t.event ≡ Op tx birth nth sn op
    → t.answer ≡ Ok (Answered answer epoch) → ReachedAt n epoch qs

-- one that is down is past the epochs that it reached
abbrev pub DownIsPast : Type 0 → Type 0
DownIsPast T = (n w c d epoch : ℕ) (ps qs : List (Option (Pass T Note Origin))) (t : Turn) → Took w c ps (t ∷ []) d qs → t.shard ≡ n → t.answer ≡ Ok Down → ReachedAt n epoch ps → PastAt n epoch qs

-- past an epoch nothing goes back in it
abbrev pub PastRollsNowhere : Type 0 → Type 0
PastRollsNowhere T =
    (n w c d : ℕ) (ps qs : List (Option (Pass T Note Origin))) (t : Turn) (tx : TxId) (nth epoch upto : ℕ) → Took w c ps (t ∷ []) d qs → t.shard ≡ n → t.event ≡ RollTo tx nth epoch upto → PastAt n epoch ps → t.answer ≡ Ok Rolled → ⊥

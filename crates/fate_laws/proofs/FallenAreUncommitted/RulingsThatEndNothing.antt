-- Rulings that are no acknowledgement, and such that are no END.
use Rattle.std.proofs.Common.{◌≡◌, true, false, cond, Bool, ℕ, List, [], ◌∷◌, Option, Some, None}
use Rattle.clv_base.specs.declared.names.TxId.{TxId}
use Rattle.clv_base.specs.declared.causes.AbortCause.{AbortCause}
use Rattle.clv_base.specs.declared.parts.PartFacts.{PartFacts}
use Rattle.clv_base.specs.declared.state.Request.{Request}
use Rattle.clv_base.specs.declared.state.Ruling.TheVariants.{Acknowledge, End as EndVerdict}
use Rattle.clv_base.specs.Facts.{has_durable_predecessors}
use Rattle.clv_base.specs.Coordinator.{agreed_ruling, refusal, refused_ruling, end_ruling, undecided_ruling, yes_shards}
use Rattle.law_base.proofs.Changed.{none_some}

-- ---- an acknowledgement

pub ack_refused : (shard : ℕ) (q : Request) (o : Option AbortCause) → refused_ruling shard q o ≡ Some Acknowledge → ⊥
ack_refused shard q None e = none_some Acknowledge e
ack_refused shard q (Some c) e = absurd cc

pub ack_end : (q : Request) (ps : List ℕ) → end_ruling q ps ≡ Some Acknowledge → ⊥
ack_end q [] e = none_some Acknowledge e
ack_end q (p ∷ ps) e = at _ e
  where
    at : (b : Bool) → cond b (Some EndVerdict) None ≡ Some Acknowledge → ⊥
    at true e = absurd cc
    at false e = none_some Acknowledge e

-- ---- an END

no_end_agreed : (f : PartFacts) (u : Bool) (ps : List ℕ) → agreed_ruling f u ps ≡ Some EndVerdict → ⊥
no_end_agreed f u (p ∷ ps) e = absurd cc
no_end_agreed f true [] e = absurd cc
no_end_agreed f false [] e = at (has_durable_predecessors f) e
  where
    at : (b : Bool) → cond b (Some Acknowledge) None ≡ Some EndVerdict → ⊥
    at true e = absurd cc
    at false e = none_some EndVerdict e

no_end_refused : (shard : ℕ) (q : Request) (o : Option AbortCause) → refused_ruling shard q o ≡ Some EndVerdict → ⊥
no_end_refused shard q None e = none_some EndVerdict e
no_end_refused shard q (Some c) e = absurd cc

pub no_end_undecided : (shard : ℕ) (tx : TxId) (q : Request) (f : PartFacts) (b : Bool) → undecided_ruling shard tx q f b ≡ Some EndVerdict → ⊥
no_end_undecided shard tx q f true e = no_end_agreed f f.updates (yes_shards shard q) e
no_end_undecided shard tx q f false e = no_end_refused shard q (refusal tx q f) e

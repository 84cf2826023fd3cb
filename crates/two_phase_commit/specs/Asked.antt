-- What a hash map tells of those that have a request, without the request.
use Rattle.std.specs.Prelude.{◌≡◌, ℕ, Bool, true, false, not, ◌&&◌, [], Option, Some, None}
use Rattle.clv_base.specs.declared.names.TxId.{TxId}
use Rattle.clv_base.specs.declared.state.Request.{Request}
use Rattle.clv_base.specs.Orders.{Table, tx_get}
use Rattle.clv_base.specs.Coordinator.{others}
use Rattle.two_phase_commit.specs.declared.brief.Brief.{Brief}
use Rattle.two_phase_commit.specs.declared.brief.Brief.TheVariants.{Alone, Other}
use Rattle.two_phase_commit.specs.declared.form.Stage.{Stage}
use Rattle.two_phase_commit.specs.declared.form.Stage.TheVariants.{Undecided, Committed, Finished, Asked}
use Rattle.two_phase_commit.specs.Kept.{state_at}

-- it is so far, touched no other shard, and nobody voted
pub record IsAlone (shard : ℕ) (stage : Stage) (q : Request) : Type 0 where
  pub state : q.state ≡ state_at stage
  pub votes : q.votes ≡ []
  pub only : others shard q.touched ≡ []

abbrev pub Tells : ℕ → Brief → Request → Type 0
Tells shard (Alone stage) q = IsAlone shard stage q
Tells shard Other q = Unit {0}

-- nothing is due of it, as is plain by that, by whether the home's part is closed and undecided, and by whether an abort took that away
abbrev pub rests : Brief → Bool → Bool → Bool
rests (Alone Undecided) waits doomed = not waits && not doomed
rests (Alone Committed) waits doomed = true
rests (Alone Finished) waits doomed = true
rests (Alone Asked) waits doomed = true
rests Other waits doomed = false

-- who has a request is told of, and nobody else
abbrev pub IsTold : ℕ → Option Brief → Option Request → Type 0
IsTold shard None None = Unit {0}
IsTold shard None (Some q) = ⊥
IsTold shard (Some b) None = ⊥
IsTold shard (Some b) (Some q) = Tells shard b q

abbrev pub AreAsked : ℕ → Table Brief → Table Request → Type 0
AreAsked shard names requests = (t : TxId) → IsTold shard (tx_get t names) (tx_get t requests)

-- What a home keeps of a request, and the request that it is.
use Rattle.std.specs.Prelude.{ℕ, ◌<◌, [], ◌∷◌, Option, Some, None}
use Rattle.std.specs.List.{AllByRecursion}
use Rattle.clv_base.specs.declared.causes.AbortCause.{AbortCause}
use Rattle.clv_base.specs.declared.causes.AbortCause.TheVariants.{Asked as ByItself, Predecessor}
use Rattle.clv_base.specs.declared.state.Request.{Request}
use Rattle.clv_base.specs.declared.state.RequestState.{RequestState}
use Rattle.clv_base.specs.declared.state.RequestState.TheVariants.{Undecided as IsUndecided, Committed as IsCommitted, Finished as IsFinished, Refused}
use Rattle.clv_base.specs.declared.state.Ruling.{Ruling}
use Rattle.clv_base.specs.declared.state.Ruling.TheVariants.{Abort}
use Rattle.clv_base.specs.Coordinator.{new_request}
use Rattle.two_phase_commit.specs.declared.form.Form.{Form}
use Rattle.two_phase_commit.specs.declared.form.Form.TheVariants.{Alone, Lost, Shared}
use Rattle.two_phase_commit.specs.declared.form.Stage.{Stage}
use Rattle.two_phase_commit.specs.declared.form.Stage.TheVariants.{Undecided, Committed, Finished, Asked}
use Rattle.two_phase_commit.specs.declared.joint.Joint.{Joint}

-- a request with its votes
abbrev pub joint_request : Joint → Request
joint_request j = record { touched = j.touched; votes = (j.votes).votes; state = j.state; acknowledged_by = j.acknowledged_by; is_ended = j.is_ended }

-- each shard that it touched has a place for its vote
abbrev pub HasPlaces : Joint → Type 0
HasPlaces j = AllByRecursion (λ t. t.0 < (j.votes).places) j.touched

-- a request of one shard, on which nobody else votes
abbrev pub alone_in : ℕ → ℕ → RequestState → Request
alone_in shard epoch state = new_request ((shard, epoch) ∷ []) state

abbrev pub state_at : Stage → RequestState
state_at Undecided = IsUndecided
state_at Committed = IsCommitted []
state_at Finished = IsFinished
state_at Asked = Refused ByItself

abbrev pub request_of : Form → Request
request_of (Alone shard epoch stage) = alone_in shard epoch (state_at stage)
request_of (Lost shard epoch to) = alone_in shard epoch (Refused (Predecessor to))
request_of (Shared joint) = joint_request joint.value

abbrev pub IsPlaced : Form → Type 0
IsPlaced (Alone shard epoch stage) = Unit {0}
IsPlaced (Lost shard epoch to) = Unit {0}
IsPlaced (Shared joint) = HasPlaces joint.value

-- an abort of which no other shard is told, where there is a cause
abbrev pub refused_alone : Option AbortCause → Option Ruling
refused_alone None = None
refused_alone (Some cause) = Some (Abort cause [])

-- What calls of a session tell.
use Rattle.std.specs.Prelude.{◌≡◌, ℕ, List, [], OnOk}
use Rattle.clv_base.specs.declared.ops.Op.TheVariants as op
use Rattle.cluster_turns.specs.declared.shards.Shards.{Shards}
use Rattle.cluster_turns.specs.declared.shards.Walker.{Walker}
use Rattle.session_ops.specs.Parts.{value_in, added_in}
use Rattle.session_api.specs.declared.progress.Progress.{Progress}
use Rattle.session_api.specs.Savepoints.{SaveCalled, saves_rolled}
use Rattle.session_api.specs.GoingBack.{RollCalled, has_number}
use Rattle.session_api.specs.Sessions.{BeginCalled, RetryCalled, PointCalled, ScanCalled, CommitCalled, AbortCalled}
use Rattle.session_examples.specs.declared.calls.Call.{Call}
use Rattle.session_examples.specs.declared.calls.Call.TheVariants.{Begin, Retry, Get, Put, Del, Add, Scan, Save, Back, Commit, Abort}
use Rattle.session_examples.specs.declared.calls.Said.{Said}
use Rattle.session_examples.specs.declared.calls.Said.TheVariants.{Begun, Retried, Value, Added, Pairs, Kept, Rolled, Settled, Aborted}

module _ {M S G : Type 0} where
  -- one call, by what the session promises of it and of its savepoints
  abbrev pub Called : Shards M S G → Walker M S G → Progress → List ℕ → Call → Said → Walker M S G → Progress → List ℕ → Type 0
  Called sh w s saves Begin (Begun r) v t saves' = BeginCalled sh w s r v t × OnOk r (saves' ≡ [])
  Called sh w s saves Retry (Retried r) v t saves' = RetryCalled sh w s r v t × OnOk r (saves' ≡ [])
  Called sh w s saves (Get key) (Value r) v t saves' = PointCalled value_in sh w s (op.Get key) key r v t × (saves' ≡ saves)
  Called sh w s saves (Put key value) (Value r) v t saves' = PointCalled value_in sh w s (op.Put key value) key r v t × (saves' ≡ saves)
  Called sh w s saves (Del key) (Value r) v t saves' = PointCalled value_in sh w s (op.Del key) key r v t × (saves' ≡ saves)
  Called sh w s saves (Add key by) (Added r) v t saves' = PointCalled added_in sh w s (op.Add key by) key r v t × (saves' ≡ saves)
  Called sh w s saves (Scan lo hi) (Pairs r) v t saves' = ScanCalled sh w s lo hi r v t × (saves' ≡ saves)
  Called sh w s saves Save (Kept r) v t saves' = SaveCalled s r saves saves' × (v ≡ w) × (t ≡ s)
  Called sh w s saves (Back upto) (Rolled r) v t saves' = RollCalled sh w s saves upto r v t × (saves' ≡ saves_rolled (has_number upto saves) s upto saves)
  Called sh w s saves Commit (Settled r) v t saves' = CommitCalled sh w s r v t
  Called sh w s saves Abort (Aborted r) v t saves' = AbortCalled sh w s r v t
  Called sh w s saves call said v t saves' = ⊥

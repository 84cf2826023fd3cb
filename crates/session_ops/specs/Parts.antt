-- What an operation on one shard tells, with the drops that follow a death.
use Rattle.std.specs.Prelude.{◌≡◌, ℕ, ◌+◌, ◌==◌, Bool, true, false, List, [], ◌++◌, Option, Some, None, Result, Ok, Err, length}
use Rattle.std.specs.List.{AllByRecursion}
use Rattle.std.specs.Map.{lookup}
use Rattle.clv_base.specs.declared.values.Value.{Value as ValueType}
use Rattle.clv_base.specs.declared.names.TxId.{TxId}
use Rattle.clv_base.specs.declared.names.Birth.{Birth}
use Rattle.clv_base.specs.declared.ops.Op.{Op}
use Rattle.clv_base.specs.declared.ops.Answer.{Answer}
use Rattle.clv_base.specs.declared.ops.Answer.TheVariants.{Value, Pairs, Added}
use Rattle.clv_base.specs.declared.events.Event.{Event}
use Rattle.clv_base.specs.declared.events.Event.TheVariants.{Op as OpEvent}
use Rattle.clv_base.specs.Shards.{shard_of}
use Rattle.clv_base.specs.Sessions.{SessionState}
use Rattle.turn_lock.specs.declared.pass.Pass.{Pass}
use Rattle.machine_laws.specs.declared.notes.Note.{Note}
use Rattle.machine_laws.specs.declared.notes.Origin.{Origin}
use Rattle.cluster_turns.specs.declared.shards.Shards.{Shards}
use Rattle.cluster_turns.specs.declared.shards.Walker.{Walker}
use Rattle.cluster_turns.specs.CallTurns.{Turn, Took}
use Rattle.session_ops.specs.declared.operating.OpError.{OpError}
use Rattle.session_ops.specs.declared.operating.OpError.TheVariants.{Aborted, Down, Worn, Memory}
use Rattle.session_ops.specs.Standing.{IsActive}
use Rattle.session_ops.specs.Operated.{OnlyOf, ToldBy, PlacedBy, answered_in}
use Rattle.session_ops.specs.Dropped.{Drops}
use Rattle.session_ops.specs.Unbearing.{IsEnded}
use Rattle.session_ops.specs.Decided.{DropsOthers}

-- whether the transaction died of it
abbrev pub has_died : {A : Type 0} → Result A OpError → Bool
has_died (Ok answer) = false
has_died (Err (Aborted cause)) = true
has_died (Err (Down n)) = false
has_died (Err (Worn at)) = false
has_died (Err Memory) = false

-- the other parts are dropped where the transaction died, else there is no further turn
abbrev pub LeftBy : ℕ → ℕ → TxId → List (ℕ × ℕ) → Bool → List Turn → Type 0
LeftBy count n tx touched true ts = DropsOthers count tx touched n ts
LeftBy count n tx touched false ts = ts ≡ []

-- turns that of a session's are only those of this event, and then, where the transaction died, drops of its other parts
pub record Performing {T : Type 0} (count w clock : ℕ) (before : List (Option (Pass T Note Origin))) (n : ℕ) (p : SessionState) (e : Event) (r : Result Answer OpError) (clock' : ℕ) (after : List (Option (Pass T Note Origin))) : Type 0 where
  pub asking : List Turn
  pub leaving : List Turn
  pub took : Took w clock before (asking ++ leaving) clock' after
  pub only : OnlyOf e asking
  pub told : ToldBy n e (answered_in r) asking
  pub drops : AllByRecursion (Drops p.tx p.touched (Some n)) leaving
  pub left : LeftBy count n p.tx p.touched (has_died r) leaving

-- an operation at a key answers the value before
abbrev pub value_in : Result Answer OpError → Result (Option ValueType) OpError
value_in (Ok (Value value)) = Ok value
value_in (Ok (Pairs pairs)) = Ok None
value_in (Ok (Added found)) = Ok None
value_in (Err e) = Err e

-- an addition answers whether there was a number
abbrev pub added_in : Result Answer OpError → Result Bool OpError
added_in (Ok (Added found)) = Ok found
added_in (Ok (Value value)) = Ok false
added_in (Ok (Pairs pairs)) = Ok false
added_in (Err e) = Err e

abbrev pub whole_in : Result Answer OpError → Result Answer OpError
whole_in answer = answer

module _ {M S G : Type 0} where
  -- over, without a part, where the transaction died, else active
  abbrev pub StandsUnless : Bool → Shards M S G → Walker M S G → SessionState → Type 0
  StandsUnless true sh w p = IsEnded sh w p
  StandsUnless false sh w p = IsActive sh w p

  -- the operation's next number, on the shard of its key; a caller is told of the answer by tells
  pub record PointTold {A : Type 0} (tells : Result Answer OpError → Result A OpError) (sh : Shards M S G) (w : Walker M S G) (p : SessionState) (op : Op) (key : ℕ) (r : Result A OpError) (v : Walker M S G) (q : SessionState) : Type 0 where
    pub answer : Result Answer OpError
    pub is : r ≡ tells answer
    pub turns : (birth : Birth) → p.birth ≡ Some birth → Performing (length sh.locks.items) w.number w.clock w.passes.items (shard_of sh.splits key) p (OpEvent p.tx birth (p.nth + 1) (lookup (◌==◌ (shard_of sh.splits key)) p.touched) op) answer v.clock v.passes.items
    pub place : PlacedBy (shard_of sh.splits key) (p.nth + 1) op p (answered_in answer) q

-- What a session's calls tell that go back.
use Rattle.std.specs.Prelude.{◌≡◌, ℕ, suc, ◌^◌, ◌==◌, Bool, true, false, length, List, Option, Some, None, Result, Err}
use Rattle.std.specs.List.{list_any}
use Rattle.clv_base.specs.declared.names.TxId.{TxId}
use Rattle.clv_base.specs.Sessions.{SessionState}
use Rattle.cluster_turns.specs.declared.shards.Shards.{Shards}
use Rattle.cluster_turns.specs.declared.shards.Walker.{Walker}
use Rattle.cluster_turns.specs.Walkers.{IsSameWalker}
use Rattle.session_ops.specs.declared.rolling.BackError.{BackError}
use Rattle.session_ops.specs.Parts.{StandsUnless}
use Rattle.session_ops.specs.WentBack.{GoingBack, Rolling, has_died}
use Rattle.session_ops.specs.Undone.{LeftBy, failed_as}
use Rattle.session_api.specs.declared.savepoints.RollError.{RollError}
use Rattle.session_api.specs.declared.savepoints.RollError.TheVariants as roll
use Rattle.session_api.specs.declared.progress.Progress.{Progress}
use Rattle.session_api.specs.declared.progress.Progress.TheVariants.{Idle, Active, Worn, Undone, Asked, Ended}
use Rattle.session_api.specs.Progresses.{active_tx, back_told, progress_back}

-- whether it is one of these savepoints
abbrev pub has_number : ℕ → List ℕ → Bool
has_number upto saves = list_any (λ u. u == upto) saves

module _ {M S G : Type 0} where
  -- the active transaction p went back
  pub record BackMade (sh : Shards M S G) (w : Walker M S G) (p : SessionState) (upto : ℕ) (r : Result Unit RollError) (v : Walker M S G) (t : Progress) : Type 0 where
    pub answer : Result Unit BackError
    pub place : SessionState
    pub turns : GoingBack (length sh.locks.items) w.number w.clock w.passes.items p upto answer v.clock v.passes.items place
    pub left : LeftBy sh p upto answer v place
    pub walker : IsSameWalker w v
    pub stands : StandsUnless (has_died answer) sh v place
    pub is : r ≡ back_told answer
    pub then : t ≡ progress_back place upto answer

  -- its going back to upto, left undone on shard n, was made once more there
  pub record AgainMade (sh : Shards M S G) (w : Walker M S G) (p : SessionState) (n upto : ℕ) (e : BackError) (v : Walker M S G) (t : Progress) : Type 0 where
    pub place : SessionState
    pub turns : Rolling (length sh.locks.items) w.number w.clock w.passes.items p (suc p.nth) upto n (failed_as e) v.clock v.passes.items place
    pub left : LeftBy sh p upto (failed_as e) v place
    pub walker : IsSameWalker w v
    pub stands : StandsUnless (has_died (failed_as e)) sh v place
    pub then : t ≡ progress_back place upto (failed_as e)

  -- so it was in the place of the one that was asked for
  pub record AgainCalled (sh : Shards M S G) (w : Walker M S G) (p : SessionState) (n upto : ℕ) (r : Result Unit RollError) (v : Walker M S G) (t : Progress) : Type 0 where
    pub error : BackError
    pub made : AgainMade sh w p n upto error v t
    pub is : r ≡ back_told (failed_as error)

  -- where one is active
  abbrev pub BackCalled : Shards M S G → Walker M S G → Progress → ℕ → Result Unit RollError → Walker M S G → Progress → Type 0
  BackCalled sh w (Active p) upto r v t = BackMade sh w p upto r v t
  BackCalled sh w (Undone p n left) upto r v t = AgainCalled sh w p n left r v t
  BackCalled sh w (Worn p) upto r v t = (r ≡ Err (roll.Worn (2 ^ 48))) × (v ≡ w) × (t ≡ Worn p)
  BackCalled sh w Idle upto r v t = ⊥
  BackCalled sh w (Asked p home stamp) upto r v t = ⊥
  BackCalled sh w (Ended p) upto r v t = ⊥

  abbrev pub RollRefused : RollError → Walker M S G → Progress → Result Unit RollError → Walker M S G → Progress → Type 0
  RollRefused e w s r v t = (r ≡ Err e) × (v ≡ w) × (t ≡ s)

  -- to one of the savepoints
  abbrev pub RollBeside : Option TxId → Bool → Shards M S G → Walker M S G → Progress → ℕ → Result Unit RollError → Walker M S G → Progress → Type 0
  RollBeside None saved sh w s upto r v t = RollRefused roll.NoTx w s r v t
  RollBeside (Some tx) false sh w s upto r v t = RollRefused (roll.NotSaved upto) w s r v t
  RollBeside (Some tx) true sh w s upto r v t = BackCalled sh w s upto r v t

  abbrev pub RollCalled : Shards M S G → Walker M S G → Progress → List ℕ → ℕ → Result Unit RollError → Walker M S G → Progress → Type 0
  RollCalled sh w s saves upto r v t = RollBeside (active_tx s) (has_number upto saves) sh w s upto r v t

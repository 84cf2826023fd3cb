-- How a transaction's end on a shard frees its birth there.
use Rattle.std.specs.Prelude.{◌≡◌, ◌≢◌, ℕ, ◌==◌, Bool, true, false, List, Some, None}
use Rattle.std.specs.List.{AllByRecursion, list_any}
use Rattle.clv_base.specs.declared.names.TxId.{TxId}
use Rattle.clv_base.specs.declared.names.Birth.{Birth}
use Rattle.clv_base.specs.declared.logs.LogRecord.{LogRecord}
use Rattle.clv_base.specs.declared.events.Event.{Event}
use Rattle.clv_base.specs.declared.events.Event.TheVariants.{Op, Request, Drop}
use Rattle.clv_base.specs.declared.events.Outcome.{Outcome}
use Rattle.clv_base.specs.declared.events.Outcome.TheVariants.{Dead, Asked}
use Rattle.clv_base.specs.declared.events.Entry.{Entry}
use Rattle.clv_base.specs.declared.state.Stage.TheVariants.{Active}
use Rattle.clv_base.specs.Orders.{tx_get}
use Rattle.clv_base.specs.State.{Shard, is_active_stage}
use Rattle.clv_base.specs.Undo.{stage_of}
use Rattle.clv_base.specs.Events.{Does, happen}
use Rattle.clv_base.specs.Restarts.{opened, revived}
use Rattle.clv_base.specs.Journals.{has_equal_active_birth}
use Rattle.clv_base.specs.History.{answered_epoch}
use Rattle.clv_base.specs.Machines.{Runs}

-- each active part is the one that the table gives under its name
abbrev pub ActiveAreFound : Shard → Type 0
ActiveAreFound s = AllByRecursion (λ p. is_active_stage (p.1).stage ≡ true → tx_get p.0 s.local.parts ≡ Some p.1) s.local.parts

abbrev pub RunsFindActive : Type 0
RunsFindActive = (n run : ℕ) (found : List LogRecord) (es : List Entry) (t : Shard) → Runs (opened n run found) es t → ActiveAreFound t

-- the entry ends what the transaction may do on the shard: it died, made its request, or was dropped
abbrev pub EndsHere : TxId → Event → Outcome → Type 0
EndsHere tx (Op u birth nth seen op) (Dead cause) = u ≡ tx
EndsHere tx (Request u touched) Asked = u ≡ tx
EndsHere tx (Drop u) o = u ≡ tx
EndsHere tx _ _ = ⊥

-- where a transaction alone may be active with a birth, the birth is free once it isn't active
abbrev pub InactiveIsFree : Type 0
InactiveIsFree =
    (s : Shard) (tx u : TxId) (birth : Birth) → ActiveAreFound s → stage_of s.local tx ≢ Some Active → has_equal_active_birth tx birth s.local.parts ≡ false → has_equal_active_birth u birth s.local.parts ≡ false

-- it is so after its end
abbrev pub EndsFree : Type 0
EndsFree =
    (s t : Shard) (e : Event) (o : Outcome) (tx u : TxId) (birth : Birth) → ActiveAreFound s → happen s e ≡ Does o t → EndsHere tx e o → has_equal_active_birth tx birth s.local.parts ≡ false
    → has_equal_active_birth u birth t.local.parts ≡ false

-- and after a restart
abbrev pub RestartsFree : Type 0
RestartsFree = (s : Shard) (epoch : ℕ) (log : List LogRecord) (tx : TxId) (birth : Birth) → has_equal_active_birth tx birth (revived s epoch log).local.parts ≡ false

-- whether an operation of the transaction was answered in this epoch
abbrev pub answered_in : ℕ → TxId → Entry → Bool
answered_in epoch tx e = elim (answered_epoch tx e.event e.outcome) [ Some n ↦ n == epoch | None ↦ false ]

-- in every run who is active was answered in the shard's epoch
abbrev pub ActiveWereAnswered : Type 0
ActiveWereAnswered =
    (n run : ℕ) (found : List LogRecord) (es : List Entry) (t : Shard) (tx : TxId) → Runs (opened n run found) es t → stage_of t.local tx ≡ Some Active
    → list_any (answered_in t.local.epoch tx) es ≡ true

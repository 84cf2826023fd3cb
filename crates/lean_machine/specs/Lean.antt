-- What a machine that forgets is seen as.
use Rattle.std.specs.Prelude.{◌≡◌, Option, Some, None, reverse}
use Rattle.clv_base.specs.declared.names.TxId.{TxId}
use Rattle.clv_base.specs.declared.logs.LogRecord.{LogRecord}
use Rattle.clv_base.specs.declared.logs.LogRecord.TheVariants.{Commit}
use Rattle.clv_base.specs.declared.messages.Message.TheVariants.{Done}
use Rattle.clv_base.specs.declared.events.Event.{Event}
use Rattle.clv_base.specs.declared.events.Event.TheVariants.{Deliver}
use Rattle.clv_base.specs.declared.state.Request.{Request}
use Rattle.clv_base.specs.Orders.{Table}
use Rattle.clv_base.specs.State.{Shard}
use Rattle.ended_laws.specs.Recalled.{forgets_all, recalls, AreSpent}

-- what it keeps, with the rows that it has forgotten, of which the first one went first
abbrev pub whole : Table Request → Shard → Shard
whole gone s = recalls (reverse gone) s

-- these are spent, and it keeps all but them
pub record IsLean (gone : Table Request) (s : Shard) : Type 0 where
  pub spent : AreSpent (reverse gone) (whole gone s)
  pub kept : forgets_all (reverse gone) (whole gone s) ≡ s

-- whose acknowledgement an event delivers, if it does
abbrev pub acknowledged_in : Event → Option TxId
acknowledged_in (Deliver (Done to tx from) stamp) = Some tx
acknowledged_in _ = None

-- whose COMMIT a record is, if it is one
abbrev pub commit_by : Option LogRecord → Option TxId
commit_by (Some (Commit tx parts)) = Some tx
commit_by _ = None

-- the shard that it is seen as, and the gate of its log where it has it
pub record Leaned (G : Type 0) : Type 0 where
  pub shard : Shard
  pub gate : Option G

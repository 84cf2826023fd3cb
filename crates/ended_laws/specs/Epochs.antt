-- Which epochs of requests a look reads.
use Rattle.std.specs.Prelude.{◌≡◌, ℕ, cond, ◌==◌, Option, Some, None}
use Rattle.clv_base.specs.declared.names.TxId.{TxId}
use Rattle.clv_base.specs.declared.events.Event.{Event}
use Rattle.clv_base.specs.declared.events.Outcome.{Outcome}
use Rattle.clv_base.specs.State.{Shard}
use Rattle.clv_base.specs.Events.{Does, happen, look_lost, request_epoch, with_entry}

-- the epoch that the transaction's request named, where that isn't the shard's own any more: a restart came in between
abbrev pub lost_by : ℕ → Option ℕ → Option ℕ
lost_by now None = None
lost_by now (Some e) = cond (e == now) None (Some e)

abbrev pub lost_epoch : Shard → TxId → Option ℕ
lost_epoch s tx = lost_by s.local.epoch (request_epoch s.shard tx s.journal)

-- a look at a request that isn't known any more is answered by that alone
abbrev pub LooksReadLostEpochs : Type 0
LooksReadLostEpochs = (s : Shard) (tx : TxId) → look_lost s tx (request_epoch s.shard tx s.journal) ≡ look_lost s tx (lost_epoch s tx)

-- and no event but a restart changes it
abbrev pub OnlyRestartsLoseEpochs : Type 0
OnlyRestartsLoseEpochs = (s t : Shard) (tx : TxId) (e : Event) (o : Outcome) (stamp w : ℕ) → happen s e ≡ Does o t → lost_epoch (with_entry stamp w e o t) tx ≡ lost_epoch s tx

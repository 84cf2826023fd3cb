-- What a transaction did over all shards, and that its goings back were whole when it asked to commit.
use Rattle.std.specs.Prelude.{◌≡◌, ℕ, true, cond, List, [], ◌∷◌, Option, Some, None}
use Rattle.clv_base.specs.declared.names.TxId.{TxId}
use Rattle.clv_base.specs.declared.logs.LogRecord.{LogRecord}
use Rattle.clv_base.specs.declared.events.Event.{Event}
use Rattle.clv_base.specs.declared.events.Event.TheVariants.{Op as OpEvent, RollTo, Request as RequestEvent}
use Rattle.clv_base.specs.declared.events.Outcome.{Outcome}
use Rattle.clv_base.specs.declared.events.Outcome.TheVariants.{Answered, Rolled, Asked}
use Rattle.clv_base.specs.declared.events.Entry.{Entry}
use Rattle.clv_base.specs.Orders.{tx_same}
use Rattle.clv_base.specs.Journals.{History}
use Rattle.clv_base.specs.History.{Legal, IsAmong}
use Rattle.serial_laws.specs.Shares.{ShardAct, OnShard, BackOn, goes_whole}

-- an operation of the transaction that a shard answered, or its going back there
abbrev pub act_on : TxId → ℕ → Event → Outcome → Option ShardAct
act_on t n (OpEvent tx birth nth seen op) (Answered answer epoch) = cond (tx_same t tx) (Some (OnShard n nth op answer)) None
act_on t n (OpEvent tx birth nth seen op) _ = None
act_on t n (RollTo tx nth seen upto) Rolled = cond (tx_same t tx) (Some (BackOn n nth upto)) None
act_on t n (RollTo tx nth seen upto) _ = None
act_on t n _ o = None

-- those of a history, in its order
abbrev pub shard_acts_in : TxId → History → List ShardAct
shard_acts_in t [] = []
shard_acts_in t (e ∷ es) = elim (act_on t e.0 (e.1).event (e.1).outcome) [ Some x ↦ x ∷ shard_acts_in t es | None ↦ shard_acts_in t es ]

-- a transaction whose request was taken has numbered its acts in order, and where it went back, no write of a later operation was left on any shard
abbrev pub RequestsGoWhole : Type 0
RequestsGoWhole =
    (splits : List ℕ) (before : List (List LogRecord)) (h : History) (after : List (List LogRecord)) (home : ℕ) (r : Entry) (tx : TxId) (touched : List (ℕ × ℕ))
    → Legal splits before h after → IsAmong home r h → r.event ≡ RequestEvent tx touched → r.outcome ≡ Asked → goes_whole (shard_acts_in tx h) ≡ true

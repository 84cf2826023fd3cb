-- What a transaction is told in the end.
use Rattle.std.specs.Prelude.{◌≡◌, ℕ, Bool, true, false, List}
use Rattle.std.specs.List.{list_any}
use Rattle.clv_base.specs.declared.names.TxId.{TxId}
use Rattle.clv_base.specs.declared.logs.LogRecord.{LogRecord}
use Rattle.clv_base.specs.declared.events.Event.{Event}
use Rattle.clv_base.specs.declared.events.Event.TheVariants.{Op, RollTo, Request, Look, Drop}
use Rattle.clv_base.specs.declared.events.Outcome.{Outcome}
use Rattle.clv_base.specs.declared.events.Outcome.TheVariants.{Dead, Aborted, Dropped}
use Rattle.clv_base.specs.Orders.{tx_same}
use Rattle.clv_base.specs.Journals.{History}
use Rattle.clv_base.specs.History.{Legal, acknowledged_in}

-- an entry that tells of a transaction's abort: an operation, a going back or a request that died, a look that found it aborted, or its session's drop
abbrev pub is_abort : TxId → Event → Outcome → Bool
is_abort t (Op tx birth nth seen op) (Dead cause) = tx_same t tx
is_abort t (RollTo tx nth seen upto) (Dead cause) = tx_same t tx
is_abort t (Request tx touched) (Dead cause) = tx_same t tx
is_abort t (Look tx) (Aborted cause) = tx_same t tx
is_abort t (Drop tx) Dropped = tx_same t tx
is_abort t _ _ = false

abbrev pub aborted_in_history : History → TxId → Bool
aborted_in_history h t = list_any (λ e. is_abort t (e.1).event (e.1).outcome) h

-- no transaction of a legal history is told both that it is acknowledged and of an abort, its session's own among them
abbrev pub OneOutcome : Type 0
OneOutcome =
    (splits : List ℕ) (before : List (List LogRecord)) (h : History) (after : List (List LogRecord)) (t : TxId)
    → Legal splits before h after → acknowledged_in h t ≡ true → aborted_in_history h t ≡ false

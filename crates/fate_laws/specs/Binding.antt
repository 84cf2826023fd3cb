-- What a commit finds on the shards of its transaction.
use Rattle.std.specs.Prelude.{◌≡◌, ◌⊎◌, ℕ, ◌<◌, Bool, true, false, List, ◌∷◌, ◌++◌}
use Rattle.std.specs.List.{list_all}
use Rattle.clv_base.specs.declared.names.TxId.{TxId}
use Rattle.clv_base.specs.declared.logs.LogRecord.{LogRecord}
use Rattle.clv_base.specs.declared.messages.Message.TheVariants.{Decide}
use Rattle.clv_base.specs.declared.events.Event.TheVariants.{Request as RequestEvent, Deliver}
use Rattle.clv_base.specs.declared.events.Outcome.TheVariants.{Asked, Taken}
use Rattle.clv_base.specs.declared.events.Entry.{Entry}
use Rattle.clv_base.specs.Orders.{nat_in}
use Rattle.clv_base.specs.Shards.{shard_count}
use Rattle.clv_base.specs.Logs.{has_standing, committed_in, prepared_in}
use Rattle.clv_base.specs.LogRules.{log_of, listed_in}
use Rattle.clv_base.specs.State.{Shard}
use Rattle.clv_base.specs.Facts.{predecessors_of}
use Rattle.clv_base.specs.Coordinator.{others}
use Rattle.clv_base.specs.Journals.{History}
use Rattle.clv_base.specs.History.{IsAmong, logs_left, state_before}
use Rattle.history_laws.specs.Openings.{LegalFrom}
use Rattle.fate_laws.specs.Decisions.{is_left}

-- on the shard a write of the transaction stands, and all its predecessors there have COMMITs
abbrev pub IsDue : Shard → TxId → Type 0
IsDue s tx = (list_all (committed_in s.local.log) (predecessors_of s.local.pairs tx) ≡ true) × (has_standing s.local.log tx ≡ true)

-- so it is wherever a shard takes word of a commit, of this run or an earlier one, that isn't in its log yet
abbrev pub CommitsComeDue : Type 0
CommitsComeDue =
    (splits : List ℕ) (before : List (List LogRecord)) (so_far : History) (n : ℕ) (e : Entry) (later : History) (after : List (List LogRecord)) (tx : TxId) (to home stamp : ℕ)
    → LegalFrom splits before (so_far ++ (n, e) ∷ later) after
    → e.event ≡ Deliver (Decide to tx home true) stamp → e.outcome ≡ Taken → committed_in (state_before before so_far after n).local.log tx ≡ false
    → IsDue (state_before before so_far after n) tx

-- a part of a commit in a log that is left: committed, or prepared with all that its PREPARE lists committed, or not prepared
abbrev pub HasItsPart : List LogRecord → TxId → Type 0
HasItsPart log tx = (committed_in log tx ≡ true) ⊎ (((prepared_in log tx ≡ true) × (list_all (committed_in log) (listed_in log tx) ≡ true)) ⊎ (prepared_in log tx ≡ false))

-- where a COMMIT of a transaction of this run is left on any shard, each other shard that its request names has its part left
abbrev pub CommitsHaveTheirParts : Type 0
CommitsHaveTheirParts =
    (splits : List ℕ) (before : List (List LogRecord)) (h : History) (after : List (List LogRecord)) (choice : ℕ → Bool) (n m home : ℕ) (e : Entry) (touched : List (ℕ × ℕ)) (tx : TxId)
    → LegalFrom splits before h after → n < shard_count splits → m < shard_count splits
    → IsAmong home e h → e.event ≡ RequestEvent tx touched → e.outcome ≡ Asked → nat_in m (others home touched) ≡ true
    → is_left splits before h after choice n tx ≡ true → HasItsPart (log_of (logs_left splits before h after choice) m) tx

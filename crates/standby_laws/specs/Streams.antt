-- Streams of a legal history, and what a standby shows of them.
use Rattle.std.specs.Prelude.{◌≡◌, ◌⊎◌, ℕ, ◌<◌, ◌≤◌, Bool, true, false, List, take, length, Some}
use Rattle.std.specs.List.{list_all}
use Rattle.clv_base.specs.declared.names.TxId.{TxId}
use Rattle.clv_base.specs.declared.logs.LogRecord.{LogRecord}
use Rattle.clv_base.specs.Orders.{tx_in}
use Rattle.clv_base.specs.Shards.{shard_count}
use Rattle.clv_base.specs.Logs.{committed_in, committed_somewhere, stands}
use Rattle.clv_base.specs.LogRules.{log_of}
use Rattle.clv_base.specs.State.{Shard}
use Rattle.clv_base.specs.Journals.{History, final_of}
use Rattle.clv_base.specs.History.{IsSettled}
use Rattle.history_laws.specs.Openings.{LegalFrom}
use Rattle.history_laws.specs.Places.{predecessors_on}
use Rattle.fate_laws.specs.Members.{is_member}
use Rattle.standby_base.specs.Standby.{standby_members, is_begun, shown}

-- some of the durable records of the shard, from the first on
abbrev pub IsStreamOf : Shard → List LogRecord → Type 0
IsStreamOf s stream = (n : ℕ) × (n ≤ s.durable) × (stream ≡ take n s.local.log)

-- the streams are those of a legal history from logs that may be opened, each cut for itself
pub record Fed (splits : List ℕ) (before : List (List LogRecord)) (h : History) (after : List (List LogRecord)) (streams : List (List LogRecord)) : Type 0 where
  pub legal : LegalFrom splits before h after
  pub each : length streams ≡ shard_count splits
  pub streams_of : (n : ℕ) → n < shard_count splits → IsStreamOf (final_of before h after n) (log_of streams n)

-- a crash that keeps nothing of what is in flight
abbrev pub none_kept : ℕ → Bool
none_kept n = false

-- a member is of the serial history, whatever a crash keeps, or was committed in the logs at opening
abbrev pub MembersStand : Type 0
MembersStand =
    (splits : List ℕ) (before after streams : List (List LogRecord)) (h : History) (tx : TxId) → Fed splits before h after streams
    → tx_in tx (standby_members streams) ≡ true
    → (is_member splits before h after none_kept tx ≡ true) ⊎ (committed_somewhere before tx ≡ true)

-- each predecessor that a member got on a shard where it has a COMMIT is a member
abbrev pub MembersHavePredecessors : Type 0
MembersHavePredecessors =
    (splits : List ℕ) (before after streams : List (List LogRecord)) (h : History) (n : ℕ) (tx p : TxId) → Fed splits before h after streams
    → n < shard_count splits → tx_in tx (standby_members streams) ≡ true → committed_in (log_of streams n) tx ≡ true
    → tx_in p (predecessors_on before h after n tx) ≡ true → tx_in p (standby_members streams) ≡ true

-- feeding more takes no member away
abbrev pub MembersStay : Type 0
MembersStay =
    (splits : List ℕ) (before after streams more : List (List LogRecord)) (h : History) (tx : TxId) → Fed splits before h after streams
    → Fed splits before h after more
    → ((n : ℕ) → n < shard_count splits → (k : ℕ) × (log_of streams n ≡ take k (log_of more n)))
    → tx_in tx (standby_members streams) ≡ true → tx_in tx (standby_members more) ≡ true

-- all records of a settled history give its map
abbrev pub SettledIsShown : Type 0
SettledIsShown =
    (splits : List ℕ) (before after : List (List LogRecord)) (h : History) → Fed splits before h after after
    → IsSettled splits before h after → list_all is_begun after ≡ true → shown after ≡ Some (stands after)

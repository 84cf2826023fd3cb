-- The transactions in doubt after a restart, with their homes.
use Rattle.std.specs.Prelude.{◌≡◌, ℕ, true, List}
use Rattle.std.specs.List.{filter}
use Rattle.std.specs.List.Sorted.{IsStrictlySortedBy}
use Rattle.std.specs.Map.{keys_of}
use Rattle.clv_base.specs.declared.logs.LogRecord.{LogRecord}
use Rattle.clv_base.specs.declared.names.TxId.{TxId}
use Rattle.clv_base.specs.Orders.{tx_cmp, tx_get, tx_in}
use Rattle.clv_base.specs.State.{Shard}
use Rattle.clv_base.specs.Facts.{facts_of}
use Rattle.clv_base.specs.Events.{waiting_voters}
use Rattle.clv_base.specs.Logs.{in_doubt}
use Rattle.clv_base.specs.Restarts.{homes_of}
use Rattle.two_phase_commit.specs.Voting.{asks_by}

-- they rise
abbrev pub DoubtfulRise : Type 0
DoubtfulRise = (shard : ℕ) (log records : List LogRecord) → IsStrictlySortedBy tx_cmp (keys_of (homes_of records (in_doubt shard log)))

-- the voters that ask their homes, among transactions that rise and have all of them
abbrev pub WaitingAmong : Type 0
WaitingAmong =
    (s : Shard) (txs : List TxId) → IsStrictlySortedBy tx_cmp (keys_of s.voters) → IsStrictlySortedBy tx_cmp txs → ((t : TxId) → asks_by (facts_of s t) (tx_get t s.voters) ≡ true → tx_in t txs ≡ true)
    → waiting_voters s ≡ filter (λ t. asks_by (facts_of s t) (tx_get t s.voters)) txs

-- What a vote binds, and what no other's abort takes away.
use Rattle.std.specs.Prelude.{◌≡◌, ⊤, ℕ, ◌<◌, Bool, true, false, List, ◌++◌}
use Rattle.std.specs.List.{list_all}
use Rattle.clv_base.specs.declared.names.TxId.{TxId}
use Rattle.clv_base.specs.declared.logs.LogRecord.{LogRecord}
use Rattle.clv_base.specs.declared.causes.Vote.{Vote}
use Rattle.clv_base.specs.declared.causes.Vote.TheVariants.{Yes, Read, No}
use Rattle.clv_base.specs.declared.messages.Message.TheVariants.{Vote as VoteMessage}
use Rattle.clv_base.specs.declared.events.Outcome.TheVariants.{Sent}
use Rattle.clv_base.specs.declared.events.Entry.{Entry}
use Rattle.clv_base.specs.Orders.{tx_same, tx_in}
use Rattle.clv_base.specs.Shards.{shard_count}
use Rattle.clv_base.specs.Logs.{committed_in, prepared_in}
use Rattle.clv_base.specs.LogRules.{listed_in}
use Rattle.clv_base.specs.State.{Shard, is_present}
use Rattle.clv_base.specs.Undo.{stage_of, doomed_here}
use Rattle.clv_base.specs.Facts.{predecessors_of}
use Rattle.clv_base.specs.Restarts.{log_left}
use Rattle.clv_base.specs.Journals.{History}
use Rattle.clv_base.specs.History.{IsAmong, state_before}
use Rattle.history_laws.specs.Openings.{LegalFrom}

-- in these records the transaction is prepared, and all that its PREPARE lists is committed
abbrev pub IsPrepared : List LogRecord → TxId → Type 0
IsPrepared log tx = (prepared_in log tx ≡ true) × (list_all (committed_in log) (listed_in log tx) ≡ true)

-- all its predecessors on the shard have COMMITs
abbrev pub are_committed : Shard → TxId → Bool
are_committed s tx = list_all (committed_in s.local.log) (predecessors_of s.local.pairs tx)

-- what a vote binds its shard to: yes, that the part is prepared by what is durable, with all its predecessors committed; read, that the part
-- isn't there any more, and has no PREPARE
abbrev pub Keeps : Shard → TxId → Vote → Type 0
Keeps s tx Yes = IsPrepared (log_left s false) tx × (are_committed s tx ≡ true)
Keeps s tx Read = (prepared_in s.local.log tx ≡ false) × (is_present (stage_of s.local tx) ≡ false)
Keeps s tx (No why) = ⊤

-- so it is at each moment from the vote on
abbrev pub VotesBind : Type 0
VotesBind =
    (splits : List ℕ) (before : List (List LogRecord)) (so_far later : History) (after : List (List LogRecord)) (n : ℕ) (e : Entry) (home from : ℕ) (tx : TxId) (vote : Vote)
    → LegalFrom splits before (so_far ++ later) after → from < shard_count splits
    → IsAmong n e so_far → e.outcome ≡ Sent (VoteMessage home tx from vote) → Keeps (state_before before so_far after from) tx vote

-- at each moment, where all predecessors of a transaction are committed, no abort of another one that isn't committed takes it away
abbrev pub OthersAbortsSpareIt : Type 0
OthersAbortsSpareIt =
    (splits : List ℕ) (before : List (List LogRecord)) (so_far later : History) (after : List (List LogRecord)) (n : ℕ) (tx other : TxId)
    → LegalFrom splits before (so_far ++ later) after → n < shard_count splits
    → are_committed (state_before before so_far after n) tx ≡ true → tx_same other tx ≡ false → committed_in (state_before before so_far after n).local.log other ≡ false
    → tx_in tx (doomed_here (state_before before so_far after n).local other) ≡ false

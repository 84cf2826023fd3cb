-- Of whom a shard voted read on no write stands there, and it has no COMMIT there.
use Rattle.std.specs.Prelude.{◌≡◌, ℕ, ◌<◌, false, List, ◌++◌}
use Rattle.clv_base.specs.declared.names.TxId.{TxId}
use Rattle.clv_base.specs.declared.causes.Vote.TheVariants.{Read}
use Rattle.clv_base.specs.declared.logs.LogRecord.{LogRecord}
use Rattle.clv_base.specs.declared.messages.Message.TheVariants.{Vote as VoteMessage}
use Rattle.clv_base.specs.declared.events.Outcome.TheVariants.{Sent}
use Rattle.clv_base.specs.declared.events.Entry.{Entry}
use Rattle.clv_base.specs.Shards.{shard_count}
use Rattle.clv_base.specs.Logs.{has_standing, committed_in}
use Rattle.clv_base.specs.State.{Shard}
use Rattle.clv_base.specs.Journals.{History}
use Rattle.clv_base.specs.History.{IsAmong, state_before}
use Rattle.history_laws.specs.Openings.{LegalFrom}

-- no write of the transaction stands in the shard's log, and no COMMIT
abbrev pub LeftNoMark : Shard → TxId → Type 0
LeftNoMark s tx = (has_standing s.local.log tx ≡ false) × (committed_in s.local.log tx ≡ false)

-- so it is at each moment from a shard's vote of read on it on
abbrev pub ReadersPass : Type 0
ReadersPass =
    (splits : List ℕ) (before : List (List LogRecord)) (so_far later : History) (after : List (List LogRecord)) (n : ℕ) (e : Entry) (home from : ℕ) (tx : TxId)
    → LegalFrom splits before (so_far ++ later) after → from < shard_count splits
    → IsAmong n e so_far → e.outcome ≡ Sent (VoteMessage home tx from Read) → LeftNoMark (state_before before so_far after from) tx

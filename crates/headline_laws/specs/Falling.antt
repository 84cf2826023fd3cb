-- Who voted read never fell, and no part of a member did.
use Rattle.std.specs.Prelude.{◌≡◌, ℕ, ◌<◌, Bool, true, List}
use Rattle.clv_base.specs.declared.names.TxId.{TxId}
use Rattle.clv_base.specs.declared.causes.Vote.TheVariants.{Read}
use Rattle.clv_base.specs.declared.logs.LogRecord.{LogRecord}
use Rattle.clv_base.specs.declared.messages.Message.TheVariants.{Vote as VoteMessage}
use Rattle.clv_base.specs.declared.events.Outcome.TheVariants.{Sent}
use Rattle.clv_base.specs.declared.events.Entry.{Entry}
use Rattle.clv_base.specs.Shards.{shard_count}
use Rattle.clv_base.specs.Restarts.{run_after}
use Rattle.clv_base.specs.Journals.{History}
use Rattle.clv_base.specs.History.{IsAmong}
use Rattle.history_laws.specs.Openings.{LegalFrom}
use Rattle.fate_laws.specs.Decisions.{is_left}
use Rattle.fate_laws.specs.Falls.{Fell}

-- where a shard voted read on a transaction, its part there never fell, before the vote or after it
abbrev pub ReadersNeverFell : Type 0
ReadersNeverFell =
    (splits : List ℕ) (before : List (List LogRecord)) (h : History) (after : List (List LogRecord)) (m k to : ℕ) (x : Entry) (tx : TxId)
    → LegalFrom splits before h after → m < shard_count splits
    → IsAmong k x h → x.outcome ≡ Sent (VoteMessage to tx m Read) → Fell before h after m tx → ⊥

-- where a COMMIT of a transaction of this run is left on any shard, no part of it ever fell, on any shard
abbrev pub MembersNeverFell : Type 0
MembersNeverFell =
    (splits : List ℕ) (before : List (List LogRecord)) (h : History) (after : List (List LogRecord)) (choice : ℕ → Bool) (n m : ℕ) (tx : TxId)
    → LegalFrom splits before h after → n < shard_count splits → m < shard_count splits → tx.run ≡ run_after before
    → is_left splits before h after choice n tx ≡ true → Fell before h after m tx → ⊥

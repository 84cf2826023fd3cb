-- Parts of members that never fell: those that are prepared, and those that voted yes.
use Rattle.std.specs.Prelude.{◌≡◌, ℕ, ◌<◌, Bool, true, List, ◌++◌, map}
use Rattle.clv_base.specs.declared.names.TxId.{TxId}
use Rattle.clv_base.specs.declared.logs.LogRecord.{LogRecord}
use Rattle.clv_base.specs.declared.events.Event.TheVariants.{Request as RequestEvent}
use Rattle.clv_base.specs.declared.causes.Vote.TheVariants.{Yes}
use Rattle.clv_base.specs.declared.messages.Message.TheVariants.{Vote as VoteMessage}
use Rattle.clv_base.specs.Restarts.{run_after}
use Rattle.clv_base.specs.declared.events.Outcome.TheVariants.{Asked, Sent}
use Rattle.clv_base.specs.declared.events.Entry.{Entry}
use Rattle.clv_base.specs.Orders.{nat_in}
use Rattle.clv_base.specs.Shards.{shard_count}
use Rattle.clv_base.specs.Logs.{prepared_in}
use Rattle.clv_base.specs.Journals.{History}
use Rattle.clv_base.specs.History.{IsAmong, state_before}
use Rattle.history_laws.specs.Openings.{LegalFrom}
use Rattle.fate_laws.specs.Decisions.{is_left}
use Rattle.fate_laws.specs.Earlier.{IsEarlier, WasCommitted}
use Rattle.fate_laws.specs.Falls.{Fell}

-- where a COMMIT of a transaction is left on any shard, its part on a shard that its request names never fell there, where its PREPARE is in
-- the log
abbrev pub PreparedMembersNeverFell : Type 0
PreparedMembersNeverFell =
    (splits : List ℕ) (before : List (List LogRecord)) (h : History) (after : List (List LogRecord)) (choice : ℕ → Bool) (n m home : ℕ) (e : Entry) (touched : List (ℕ × ℕ)) (tx : TxId)
    → LegalFrom splits before h after → n < shard_count splits → m < shard_count splits
    → IsAmong home e h → e.event ≡ RequestEvent tx touched → e.outcome ≡ Asked → nat_in m (map (λ t. t.0) touched) ≡ true
    → is_left splits before h after choice n tx ≡ true → prepared_in (state_before before h after m).local.log tx ≡ true → Fell before h after m tx → ⊥

-- nor on a shard that voted yes on it
abbrev pub YesVotersNeverFell : Type 0
YesVotersNeverFell =
    (splits : List ℕ) (before : List (List LogRecord)) (h : History) (after : List (List LogRecord)) (choice : ℕ → Bool) (n m k : ℕ) (e : Entry) (home : ℕ) (tx : TxId)
    → LegalFrom splits before h after → n < shard_count splits → m < shard_count splits → tx.run ≡ run_after before
    → IsAmong k e h → e.outcome ≡ Sent (VoteMessage home tx m Yes)
    → is_left splits before h after choice n tx ≡ true → Fell before h after m tx → ⊥

-- nor did a part of a transaction of an earlier run, on any shard, where some log at opening had its COMMIT
abbrev pub EarlierMembersNeverFell : Type 0
EarlierMembersNeverFell =
    (splits : List ℕ) (before : List (List LogRecord)) (so_far later : History) (after : List (List LogRecord)) (n : ℕ) (tx : TxId)
    → LegalFrom splits before (so_far ++ later) after → n < shard_count splits
    → IsEarlier before tx → WasCommitted before tx → Fell before so_far after n tx → ⊥

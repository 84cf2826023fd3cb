-- Where a member is found in what a crash leaves.
use Rattle.std.specs.Prelude.{◌≡◌, ℕ, ◌<◌, Bool, true, List, map}
use Rattle.clv_base.specs.declared.names.TxId.{TxId}
use Rattle.clv_base.specs.declared.logs.LogRecord.{LogRecord}
use Rattle.clv_base.specs.declared.events.Event.TheVariants.{Request as RequestEvent}
use Rattle.clv_base.specs.declared.events.Outcome.TheVariants.{Asked}
use Rattle.clv_base.specs.declared.events.Entry.{Entry}
use Rattle.clv_base.specs.Orders.{nat_in}
use Rattle.clv_base.specs.Shards.{shard_count}
use Rattle.clv_base.specs.LogRules.{log_of}
use Rattle.clv_base.specs.Journals.{History}
use Rattle.clv_base.specs.History.{IsAmong, logs_left}
use Rattle.history_laws.specs.Openings.{LegalFrom}
use Rattle.fate_laws.specs.Binding.{HasItsPart}
use Rattle.fate_laws.specs.Decisions.{is_left}

-- where a COMMIT is left on any shard, the transaction is committed on each shard that its request names, or prepared with all that its
-- PREPARE lists committed, or not prepared
abbrev pub MembersAreHere : Type 0
MembersAreHere =
    (splits : List ℕ) (before : List (List LogRecord)) (h : History) (after : List (List LogRecord)) (choice : ℕ → Bool) (n m home : ℕ) (e : Entry) (touched : List (ℕ × ℕ)) (tx : TxId)
    → LegalFrom splits before h after → n < shard_count splits → m < shard_count splits
    → IsAmong home e h → e.event ≡ RequestEvent tx touched → e.outcome ≡ Asked → nat_in m (map (λ t. t.0) touched) ≡ true
    → is_left splits before h after choice n tx ≡ true → HasItsPart (log_of (logs_left splits before h after choice) m) tx

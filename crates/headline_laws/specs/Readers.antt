-- Of a member, only a part that voted read may ever have fallen.
use Rattle.std.specs.Prelude.{◌≡◌, ℕ, ◌<◌, Bool, true, List, map}
use Rattle.clv_base.specs.declared.names.TxId.{TxId}
use Rattle.clv_base.specs.declared.causes.Vote.TheVariants.{Read}
use Rattle.clv_base.specs.declared.logs.LogRecord.{LogRecord}
use Rattle.clv_base.specs.declared.messages.Message.TheVariants.{Vote as VoteMessage}
use Rattle.clv_base.specs.declared.events.Event.TheVariants.{Request as RequestEvent}
use Rattle.clv_base.specs.declared.events.Outcome.TheVariants.{Asked, Sent}
use Rattle.clv_base.specs.declared.events.Entry.{Entry}
use Rattle.clv_base.specs.Orders.{nat_in}
use Rattle.clv_base.specs.Shards.{shard_count}
use Rattle.clv_base.specs.Journals.{History}
use Rattle.clv_base.specs.History.{IsAmong}
use Rattle.history_laws.specs.Openings.{LegalFrom}
use Rattle.fate_laws.specs.Decisions.{is_left}
use Rattle.fate_laws.specs.Falls.{Fell}

-- where a COMMIT of a transaction is left on any shard, and its part on a shard that its request names fell there, that shard voted read on it
abbrev pub OnlyReadersMayFall : Type 0
OnlyReadersMayFall =
    (splits : List ℕ) (before : List (List LogRecord)) (h : History) (after : List (List LogRecord)) (choice : ℕ → Bool) (n m home : ℕ) (e : Entry) (touched : List (ℕ × ℕ)) (tx : TxId)
    → LegalFrom splits before h after → n < shard_count splits → m < shard_count splits
    → IsAmong home e h → e.event ≡ RequestEvent tx touched → e.outcome ≡ Asked → nat_in m (map (λ t. t.0) touched) ≡ true
    → is_left splits before h after choice n tx ≡ true → Fell before h after m tx
    → (k : ℕ) × (x : Entry) × (to : ℕ) × IsAmong k x h × (x.outcome ≡ Sent (VoteMessage to tx m Read))

-- Who voted for a member.
use Rattle.std.specs.Prelude.{◌≡◌, ℕ, ◌<◌, Bool, true, List, Some}
use Rattle.clv_base.specs.declared.names.TxId.{TxId}
use Rattle.clv_base.specs.declared.causes.Vote.{Vote}
use Rattle.clv_base.specs.declared.logs.LogRecord.{LogRecord}
use Rattle.clv_base.specs.declared.messages.Message.TheVariants.{Vote as VoteMessage}
use Rattle.clv_base.specs.declared.events.Event.TheVariants.{Request as RequestEvent}
use Rattle.clv_base.specs.declared.events.Outcome.TheVariants.{Asked, Sent}
use Rattle.clv_base.specs.declared.events.Entry.{Entry}
use Rattle.clv_base.specs.Orders.{nat_in}
use Rattle.clv_base.specs.Shards.{shard_count}
use Rattle.clv_base.specs.Coordinator.{others, is_good}
use Rattle.clv_base.specs.Journals.{History}
use Rattle.clv_base.specs.History.{IsAmong}
use Rattle.history_laws.specs.Openings.{LegalFrom}
use Rattle.fate_laws.specs.Decisions.{is_left}

-- where a COMMIT of a transaction is left on any shard, each other shard that its request names sent a vote of yes or read on it
abbrev pub MembersAreVotedFor : Type 0
MembersAreVotedFor =
    (splits : List ℕ) (before : List (List LogRecord)) (h : History) (after : List (List LogRecord)) (choice : ℕ → Bool) (n m home : ℕ) (e : Entry) (touched : List (ℕ × ℕ)) (tx : TxId)
    → LegalFrom splits before h after → n < shard_count splits
    → IsAmong home e h → e.event ≡ RequestEvent tx touched → e.outcome ≡ Asked → nat_in m (others home touched) ≡ true
    → is_left splits before h after choice n tx ≡ true
    → (k : ℕ) × (x : Entry) × (to : ℕ) × (vote : Vote) × IsAmong k x h × (x.outcome ≡ Sent (VoteMessage to tx m vote)) × (is_good (Some vote) ≡ true)

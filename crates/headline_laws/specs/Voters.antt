-- Which shards a COMMIT names as its parts.
use Rattle.std.specs.Prelude.{◌≡◌, ℕ, Bool, true, false, List, Some}
use Rattle.clv_base.specs.declared.names.TxId.{TxId}
use Rattle.clv_base.specs.declared.logs.LogRecord.{LogRecord}
use Rattle.clv_base.specs.declared.causes.Vote.{Vote}
use Rattle.clv_base.specs.declared.causes.Vote.TheVariants.{Yes, Read}
use Rattle.clv_base.specs.declared.messages.Message.TheVariants.{Vote as VoteMessage}
use Rattle.clv_base.specs.declared.events.Event.TheVariants.{Request as RequestEvent}
use Rattle.clv_base.specs.declared.events.Outcome.TheVariants.{Asked, Sent}
use Rattle.clv_base.specs.declared.events.Entry.{Entry}
use Rattle.clv_base.specs.Orders.{nat_in}
use Rattle.clv_base.specs.Logs.{commit_parts}
use Rattle.clv_base.specs.LogRules.{log_of}
use Rattle.clv_base.specs.Coordinator.{others}
use Rattle.clv_base.specs.Journals.{History}
use Rattle.clv_base.specs.History.{IsAmong, logs_left}
use Rattle.history_laws.specs.Openings.{LegalFrom}

-- this vote of the shard m on the transaction was sent to the home
abbrev pub WasVoted : History → ℕ → TxId → ℕ → Vote → Type 0
WasVoted h home tx m vote = (k : ℕ) × (x : Entry) × IsAmong k x h × (x.outcome ≡ Sent (VoteMessage home tx m vote))

-- where a COMMIT of a transaction is left at the home that took its request, the parts that it names are the other touched shards that voted
-- yes, and those that it doesn't name voted read
abbrev pub PartsAreTheYesVoters : Type 0
PartsAreTheYesVoters =
    (splits : List ℕ) (before : List (List LogRecord)) (h : History) (after : List (List LogRecord)) (choice : ℕ → Bool) (m home : ℕ) (e : Entry) (touched : List (ℕ × ℕ)) (tx : TxId) (parts : List ℕ)
    → LegalFrom splits before h after → IsAmong home e h → e.event ≡ RequestEvent tx touched → e.outcome ≡ Asked
    → commit_parts (log_of (logs_left splits before h after choice) home) tx ≡ Some parts
    → (nat_in m parts ≡ true → (nat_in m (others home touched) ≡ true) × WasVoted h home tx m Yes)
    × (nat_in m (others home touched) ≡ true → nat_in m parts ≡ false → WasVoted h home tx m Read)

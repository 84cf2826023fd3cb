-- Where an acknowledged transaction is.
use Rattle.std.specs.Prelude.{◌≡◌, ◌⊎◌, ℕ, ◌<◌, Bool, true, false, List}
use Rattle.clv_base.specs.declared.names.TxId.{TxId}
use Rattle.clv_base.specs.declared.logs.LogRecord.{LogRecord}
use Rattle.clv_base.specs.declared.causes.Vote.TheVariants.{Read}
use Rattle.clv_base.specs.declared.messages.Message.TheVariants.{Vote as VoteMessage}
use Rattle.clv_base.specs.declared.events.Event.TheVariants.{Request as RequestEvent}
use Rattle.clv_base.specs.declared.events.Outcome.TheVariants.{Asked, Sent}
use Rattle.clv_base.specs.declared.events.Entry.{Entry}
use Rattle.clv_base.specs.Orders.{nat_in}
use Rattle.clv_base.specs.Shards.{shard_count}
use Rattle.clv_base.specs.Logs.{has_standing, committed_in}
use Rattle.clv_base.specs.State.{is_present}
use Rattle.clv_base.specs.Undo.{stage_of}
use Rattle.clv_base.specs.Coordinator.{others}
use Rattle.clv_base.specs.Journals.{History, final_of}
use Rattle.clv_base.specs.History.{Legal, IsAmong, is_acknowledgement, acknowledged_in}
use Rattle.history_laws.specs.Openings.{LegalFrom}
use Rattle.fate_laws.specs.Decisions.{IsHome, is_left}
use Rattle.fate_laws.specs.Members.{is_member}
use Rattle.fate_laws.specs.Falls.{Fell}

-- the shard sent a vote of read on the transaction
abbrev pub VotedRead : History → TxId → ℕ → Type 0
VotedRead h t m = (k : ℕ) × (x : Entry) × (to : ℕ) × IsAmong k x h × (x.outcome ≡ Sent (VoteMessage to t m Read))

-- no write stands of the transaction, whose request names these shards: it only read, or went back over what it wrote
pub record OnlyRead (before : List (List LogRecord)) (h : History) (after : List (List LogRecord)) (home : ℕ) (touched : List (ℕ × ℕ)) (t : TxId) : Type 0 where
  -- at its home no write of it stands, it is committed nowhere in the log, and isn't there any more
  pub unwritten : has_standing (final_of before h after home).local.log t ≡ false
  pub uncommitted : committed_in (final_of before h after home).local.log t ≡ false
  pub absent : is_present (stage_of (final_of before h after home).local t) ≡ false
  -- it never fell there
  pub unfallen : Fell before h after home t → ⊥
  -- each other shard that its request names voted read
  pub voted : (m : ℕ) → nat_in m (others home touched) ≡ true → VotedRead h t m

-- where a transaction is acknowledged, its COMMIT is left at its home, whatever a crash keeps, or it only read
abbrev pub AcknowledgedStand : Type 0
AcknowledgedStand =
    (splits : List ℕ) (before : List (List LogRecord)) (h : History) (after : List (List LogRecord)) (choice : ℕ → Bool) (home : ℕ) (e : Entry) (touched : List (ℕ × ℕ)) (t : TxId)
    → LegalFrom splits before h after → home < shard_count splits
    → acknowledged_in h t ≡ true → IsAmong home e h → e.event ≡ RequestEvent t touched → e.outcome ≡ Asked
    → (is_left splits before h after choice home t ≡ true) ⊎ OnlyRead before h after home touched t

-- an entry that tells a transaction of its acknowledgement is of its home, where its request was taken
abbrev pub AcknowledgedAtHome : Type 0
AcknowledgedAtHome =
    (splits : List ℕ) (before : List (List LogRecord)) (h : History) (after : List (List LogRecord)) (n : ℕ) (e : Entry) (t : TxId)
    → Legal splits before h after → IsAmong n e h → is_acknowledgement t e.event e.outcome ≡ true → IsHome h t n

-- so each acknowledged transaction made its request
abbrev pub AcknowledgementsHaveRequests : Type 0
AcknowledgementsHaveRequests =
    (splits : List ℕ) (before : List (List LogRecord)) (h : History) (after : List (List LogRecord)) (t : TxId)
    → Legal splits before h after → acknowledged_in h t ≡ true → (home : ℕ) × IsHome h t home

-- and its part at its home never fell there
abbrev pub AcknowledgedNeverFellAtHome : Type 0
AcknowledgedNeverFellAtHome =
    (splits : List ℕ) (before : List (List LogRecord)) (h : History) (after : List (List LogRecord)) (home : ℕ) (t : TxId)
    → LegalFrom splits before h after → acknowledged_in h t ≡ true → IsHome h t home → Fell before h after home t → ⊥

-- and it is a member, whatever a crash keeps
abbrev pub AcknowledgedAreMembers : Type 0
AcknowledgedAreMembers =
    (splits : List ℕ) (before : List (List LogRecord)) (h : History) (after : List (List LogRecord)) (choice : ℕ → Bool) (t : TxId)
    → Legal splits before h after → acknowledged_in h t ≡ true → is_member splits before h after choice t ≡ true

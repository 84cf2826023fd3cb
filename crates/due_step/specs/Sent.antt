-- Messages that wait to be sent, and those that what is due sends.
use Rattle.std.specs.Prelude.{◌≡◌, ℕ, Bool, true, false, List, [], ◌∷◌, ◌++◌, map, Option, Some, None}
use Rattle.clv_base.specs.declared.names.TxId.{TxId}
use Rattle.clv_base.specs.declared.messages.Message.{Message}
use Rattle.clv_base.specs.declared.messages.Message.TheVariants.{Vote as VoteMessage, Decide, Done}
use Rattle.clv_base.specs.declared.state.Ruling.TheVariants.{Commit as CommitVerdict, Acknowledge, Abort as AbortVerdict, End as EndVerdict}
use Rattle.clv_base.specs.Orders.{tx_get}
use Rattle.clv_base.specs.State.{Shard}
use Rattle.two_phase_commit.specs.Voting.{home_by}
use Rattle.two_phase_commit.specs.Coordinated.{told_by}
use Rattle.due_step.specs.Found.{carried}
use Rattle.due_step.specs.declared.finding.Due.{Due}
use Rattle.due_step.specs.declared.finding.Due.TheVariants.{Commit, Vote as DueVote, Ruling as DueRuling}

pub record Waiting : Type 0 where
  pub messages : List Message
  -- for how many more room is reserved
  pub room : ℕ

-- the oldest
abbrev pub first_of : List Message → Option Message
first_of [] = None
first_of (m ∷ ms) = Some m

-- the decision, to each of these shards
abbrev pub decide_all : TxId → ℕ → Bool → List ℕ → List Message
decide_all tx shard commit parts = map (λ p. Decide p tx shard commit) parts

-- what is sent, by the transaction's home as a voter, and whom its request tells of a commit
abbrev pub told : TxId → ℕ → Due → Option ℕ → Option (List ℕ) → List Message
told tx shard Commit home (Some parts) = decide_all tx shard true parts
told tx shard Commit (Some home) None = Done home tx shard ∷ []
told tx shard Commit None None = []
told tx shard (DueVote vote) (Some home) parts = VoteMessage home tx shard vote ∷ []
told tx shard (DueVote vote) None parts = []
told tx shard (DueRuling (CommitVerdict ps)) home parts = []
told tx shard (DueRuling Acknowledge) home parts = []
told tx shard (DueRuling (AbortVerdict cause to)) home parts = decide_all tx shard false to
told tx shard (DueRuling EndVerdict) home parts = []

-- what is found, carried out, sends this
abbrev pub CarriesMessages : Type 0
CarriesMessages = (s : Shard) (tx : TxId) (due : Due) → (carried s tx due).outbox ≡ s.outbox ++ told tx s.shard due (home_by (tx_get tx s.voters)) (told_by (tx_get tx s.requests))

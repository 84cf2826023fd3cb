-- Where what a shard has of transactions comes from.
use Rattle.std.specs.Prelude.{◌≡◌, ◌⊎◌, ℕ, ◌<◌, true, cond, List, ◌∷◌, ◌++◌, Option, Some, None}
use Rattle.clv_base.specs.declared.names.TxId.{TxId}
use Rattle.clv_base.specs.declared.names.Birth.{Birth}
use Rattle.clv_base.specs.declared.logs.LogRecord.{LogRecord}
use Rattle.clv_base.specs.declared.state.Stage.TheVariants.{Active, Closed}
use Rattle.clv_base.specs.declared.state.Held.{Held}
use Rattle.clv_base.specs.declared.state.Voter.{Voter}
use Rattle.clv_base.specs.declared.state.Request.{Request}
use Rattle.clv_base.specs.declared.messages.Message.TheVariants.{Prepare}
use Rattle.clv_base.specs.declared.events.Event.{Event}
use Rattle.clv_base.specs.declared.events.Event.TheVariants.{Op as OpEvent, Deliver}
use Rattle.clv_base.specs.declared.events.Outcome.{Outcome}
use Rattle.clv_base.specs.declared.events.Outcome.TheVariants.{Answered}
use Rattle.clv_base.specs.declared.events.Entry.{Entry}
use Rattle.clv_base.specs.Orders.{tx_same, tx_get}
use Rattle.clv_base.specs.Shards.{shard_count}
use Rattle.clv_base.specs.Logs.{wrote_in, prepared_in, committed_in}
use Rattle.clv_base.specs.State.{Shard}
use Rattle.clv_base.specs.Undo.{stage_of}
use Rattle.clv_base.specs.Restarts.{run_after}
use Rattle.clv_base.specs.Journals.{History}
use Rattle.clv_base.specs.History.{IsAmong, request_of, state_before}
use Rattle.history_laws.specs.Openings.{LegalFrom}

-- the birth and the epoch of an operation of the transaction that was answered
abbrev pub answered_as : TxId → Event → Outcome → Option (Birth × ℕ)
answered_as t (OpEvent tx birth nth seen op) (Answered answer epoch) = cond (tx_same t tx) (Some (birth, epoch)) None
answered_as t (OpEvent tx birth nth seen op) _ = None
answered_as t _ o = None

-- one was answered on the shard with this birth, in this epoch; or in some
abbrev pub WasAnsweredAs : History → ℕ → TxId → Birth → ℕ → Type 0
WasAnsweredAs h n t birth epoch = (e : Entry) × IsAmong n e h × (answered_as t e.event e.outcome ≡ Some (birth, epoch))

abbrev pub WasEverAnswered : History → ℕ → TxId → Type 0
WasEverAnswered h n t = (birth : Birth) × (epoch : ℕ) × WasAnsweredAs h n t birth epoch

-- the transaction's request was taken on the shard; or on some
abbrev pub WasAskedAt : History → ℕ → TxId → Type 0
WasAskedAt h n t = (e : Entry) × IsAmong n e h × (request_of e.event e.outcome ≡ Some t)

abbrev pub WasAsked : History → TxId → Type 0
WasAsked h t = (n : ℕ) × WasAskedAt h n t

-- or on another than this one
abbrev pub WasAskedAway : History → ℕ → TxId → Type 0
WasAskedAway h n t = (m : ℕ) × (m ≡ n → ⊥) × WasAskedAt h m t

-- what a shard of this run has of transactions comes of entries so far, or they are of an earlier run
pub record ComesOf (run : ℕ) (so_far : History) (n : ℕ) (s : Shard) : Type 0 where
  -- who is active here was answered here in this epoch, with the birth that its part has; and who was has a part
  pub active : (t : TxId) (p : Held) → tx_get t s.local.parts ≡ Some p → p.stage ≡ Active → WasAnsweredAs so_far n t p.birth s.local.epoch
  pub known : (t : TxId) (birth : Birth) → WasAnsweredAs so_far n t birth s.local.epoch → tx_get t s.local.parts ≡ None → ⊥
  -- who is closed made its request
  pub closed : (t : TxId) → stage_of s.local t ≡ Some Closed → WasAsked so_far t ⊎ (t.run < run)
  -- whose writes are in the log was answered here; who is prepared or committed made its request
  pub wrote : (t : TxId) → wrote_in s.local.log t ≡ true → WasEverAnswered so_far n t ⊎ (t.run < run)
  pub prepared : (t : TxId) → prepared_in s.local.log t ≡ true → WasAsked so_far t ⊎ (t.run < run)
  pub committed : (t : TxId) → committed_in s.local.log t ≡ true → WasAsked so_far t ⊎ (t.run < run)
  -- a request that is coordinated here was taken here; who is asked for its vote made its request elsewhere
  pub coordinated : (t : TxId) (q : Request) → tx_get t s.requests ≡ Some q → WasAskedAt so_far n t ⊎ (t.run < run)
  pub asked : (t : TxId) (v : Voter) → tx_get t s.voters ≡ Some v → WasAskedAway so_far n t ⊎ (t.run < run)

-- after each front of a legal history, on each shard
abbrev pub AllComesOfEntries : Type 0
AllComesOfEntries =
    (splits : List ℕ) (before : List (List LogRecord)) (h : History) (after : List (List LogRecord)) (so_far rest : History) (n : ℕ)
    → LegalFrom splits before h after → so_far ++ rest ≡ h → n < shard_count splits → ComesOf (run_after before) so_far n (state_before before so_far after n)

-- a Prepare that is delivered comes of its request, which was taken before at the home that it names, on another shard
abbrev pub PreparesComeOfRequests : Type 0
PreparesComeOfRequests =
    (splits : List ℕ) (before : List (List LogRecord)) (h : History) (after : List (List LogRecord)) (so_far rest : History) (n : ℕ) (e : Entry) (to home seen stamp : ℕ) (t : TxId)
    → LegalFrom splits before h after → so_far ++ (n, e) ∷ rest ≡ h → e.event ≡ Deliver (Prepare to t home seen) stamp
    → WasAskedAt so_far home t × (to ≡ home → ⊥)

-- The room that a request and a Prepare make before anything is changed, and what they come to.
use Rattle.std.specs.Prelude.{◌≡◌, ℕ, ◌+◌, ◌*◌, ◌<◌, ◌≤◌, Bool, true, false, Option, Some, None}
use Rattle.tx_table.specs.Rows.{TxRows}
use Rattle.clv_base.specs.declared.names.TxId.{TxId}
use Rattle.clv_base.specs.declared.events.Outcome.{Outcome}
use Rattle.clv_base.specs.declared.events.Outcome.TheVariants.{Asked, Dead}
use Rattle.clv_base.specs.Orders.{tx_get}
use Rattle.clv_base.specs.Coordinator.{doom_cause}
use Rattle.tx_table.specs.Held.{Candidates}
use Rattle.due_step.specs.Sent.{Waiting}
use Rattle.txn_core.specs.State.{TxState, IsSameBut}
use Rattle.txn_core.specs.Sound.{HasSpare}
use Rattle.txn_core.specs.declared.plans.Closing.{Closing}
use Rattle.txn_core.specs.declared.plans.Closing.TheVariants.{Commit as CommitWritten, Prepare as PrepareWritten, Silent as NothingWritten}
use Rattle.shard_core.specs.declared.requesting.RequestAnswer.{RequestAnswer}
use Rattle.shard_core.specs.declared.requesting.RequestAnswer.TheVariants.{Stands, Fails}

-- all stays, but that there may be more room
pub record HasStayed (t u : TxState) (p q : TxRows ℕ) (o w : Waiting) (c d : Candidates) : Type 0 where
  pub transactions : IsSameBut t t.local u
  pub records : t.room ≤ u.room
  pub pairs : t.pairs_room ≤ u.pairs_room
  pub places : (x : TxId) → tx_get x q.rows ≡ tx_get x p.rows
  pub messages : w.messages ≡ o.messages
  pub outbox : o.room ≤ w.room
  pub candidates : d.txs ≡ c.txs
  pub limit : c.limit ≤ d.limit

-- there is room for so many things more that may become due, and for a record, a PREPARE's place, so many messages and a candidate besides
pub record HasMade (things messages : ℕ) (t u : TxState) (q : TxRows ℕ) (o w : Waiting) (c d : Candidates) : Type 0 where
  pub spare : HasSpare (things + 1) u
  pub records : t.room + (things + 1) ≤ u.room
  pub pairs : t.pairs_room + (things + 1) ≤ u.pairs_room
  pub place : 0 < q.room
  pub outbox : o.room + 15 * things + messages ≤ w.room
  pub limit : c.limit + 1 ≤ d.limit

-- the place of a transaction's first PREPARE, once its part was closed, and that of another
abbrev pub place_after : Bool → Closing → Option ℕ → Option ℕ
place_after true (PrepareWritten lsn) None = Some lsn
place_after true (PrepareWritten lsn) (Some place) = Some place
place_after true (CommitWritten lsn) place = place
place_after true NothingWritten place = place
place_after false closing place = place

-- what a request is answered
abbrev pub requested : RequestAnswer → Outcome
requested Stands = Asked
requested (Fails cause) = Dead cause

-- the same, where the part is gone
abbrev pub gone_answer : TxId → Option TxId → RequestAnswer
gone_answer tx None = Stands
gone_answer tx (Some doom) = Fails (doom_cause tx doom)

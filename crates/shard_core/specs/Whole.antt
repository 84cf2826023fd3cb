-- What holds of a shard's parts together, whatever was done.
use Rattle.std.specs.Prelude.{◌≡◌, ℕ, ◌+◌, ◌*◌, ◌≤◌, true, List, [], length, drop}
use Rattle.std.specs.List.{AllByRecursion}
use Rattle.clv_base.specs.declared.names.TxId.{TxId}
use Rattle.clv_base.specs.declared.logs.LogRecord.{LogRecord}
use Rattle.clv_base.specs.declared.logs.LogRecord.TheVariants.{Prepare, Commit, Clr, Unadd}
use Rattle.clv_base.specs.Orders.{Table, tx_in}
use Rattle.clv_base.specs.State.{Shard}
use Rattle.protocol_laws.specs.Depending.{DependentsHaveParts}
use Rattle.protocol_laws.specs.Left.{left}
use Rattle.due_step.specs.Ready.{IsReady}
use Rattle.tx_table.specs.Held.{Candidates, AreAmong}
use Rattle.due_step.specs.Noting.{known_keys}
use Rattle.due_step.specs.Steps.{ArePrepares}
use Rattle.txn_core.specs.State.{TxState}
use Rattle.txn_core.specs.Sound.{HasSpare}
use Rattle.two_phase_commit.specs.Voting.{Voting}
use Rattle.two_phase_commit.specs.Coordinated.{Coordination}
use Rattle.due_step.specs.Sent.{Waiting}
use Rattle.shard_core.specs.Core.{Core}

-- room for what may still be done, and for one thing more: in the log beyond undo, for settled transactions, and for messages
pub record HasRoom (s : Shard) (t : TxState) (o : Waiting) : Type 0 where
  pub records : HasSpare (left s + 1) t
  pub pairs : left s + 1 ≤ t.pairs_room
  pub messages : 15 * (left s + 1) ≤ o.room

-- the candidates are known, and there is room for all that are
pub record AreKnown (s : Shard) (c : Candidates) : Type 0 where
  pub known : AreAmong c.txs (known_keys s)
  pub places : length s.local.parts + length s.voters + length s.requests ≤ c.limit

-- a COMMIT, a PREPARE, a CLR and an UNADD are of a transaction that is known
abbrev pub IsOfKnown : List TxId → LogRecord → Type 0
IsOfKnown keys (Commit tx parts) = tx_in tx keys ≡ true
IsOfKnown keys (Prepare tx home predecessors) = tx_in tx keys ≡ true
IsOfKnown keys (Clr tx undo_next key after) = tx_in tx keys ≡ true
IsOfKnown keys (Unadd tx undo_next key by) = tx_in tx keys ≡ true
IsOfKnown keys _ = Unit {0}

pub record IsWhole (shard : ℕ) (places : Table ℕ) (t : TxState) (p : Voting) (c : Coordination) (o : Waiting) (d : Candidates) (s : Shard) : Type 0 where
  -- all parts are of one shard
  pub transactions : shard ≡ t.shard
  pub voters : p.shard ≡ t.shard
  pub home : c.shard ≡ t.shard
  pub prepares : ArePrepares places (t.local).log
  pub dependents : DependentsHaveParts s.local
  -- so are all of whom a record that isn't durable tells
  pub logged : AllByRecursion (IsOfKnown (known_keys s)) (drop t.durable (t.local).log)
  pub candidates : AreKnown s d
  pub room : HasRoom s t o

-- nothing is due, and nobody is a candidate
pub record IsAtRest (c : Core) : Type 0 where
  pub none : c.candidates ≡ []
  pub ready : IsReady c.shard [] c.limit

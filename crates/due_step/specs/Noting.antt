-- Whom it makes a candidate that something due is done.
use Rattle.std.specs.Prelude.{◌≡◌, ◌≤◌, ◌+◌, Bool, true, false, ◌||◌, List, ◌++◌, map, length}
use Rattle.std.specs.Map.{keys_of}
use Rattle.clv_base.specs.declared.names.TxId.{TxId}
use Rattle.clv_base.specs.declared.state.Ruling.{Ruling}
use Rattle.clv_base.specs.declared.state.Ruling.TheVariants.{Commit as CommitVerdict, Abort as AbortVerdict}
use Rattle.clv_base.specs.Orders.{tx_same, tx_in}
use Rattle.clv_base.specs.State.{Local, Shard, with_local}
use Rattle.clv_base.specs.Undo.{doomed_by}
use Rattle.clv_base.specs.OneShard.{purge}
use Rattle.protocol_laws.specs.UndoLaws.{is_pair}
use Rattle.protocol_laws.specs.Candidates.{Cover}
use Rattle.protocol_laws.specs.Depending.{DependentsHaveParts}
use Rattle.tx_table.specs.Held.{Candidates, AreAmong, HasRoomBy}
use Rattle.due_step.specs.Found.{carried}
use Rattle.due_step.specs.declared.finding.Due.{Due}
use Rattle.due_step.specs.declared.finding.Due.TheVariants.{Ruling as DueRuling}

-- a COMMIT its successors, an abort the doomed
abbrev pub ruled_touches : Local → TxId → Ruling → TxId → Bool
ruled_touches l tx (CommitVerdict parts) x = is_pair l.pairs x tx
ruled_touches l tx (AbortVerdict cause to) x = tx_in x (doomed_by l tx)
ruled_touches l tx _ x = false

-- its own transaction, and whom the ruling touches
abbrev pub touches : Local → TxId → Due → TxId → Bool
touches l tx (DueRuling r) x = ruled_touches l tx r x || tx_same tx x
touches l tx _ x = tx_same tx x

-- with those, the candidates hold all for which something is due
abbrev pub NotedCovers : Type 0
NotedCovers =
    (s : Shard) (tx : TxId) (due : Due) (txs more : List TxId) → Cover txs s → ((x : TxId) → tx_in x more ≡ (touches s.local tx due x || tx_in x txs))
    → Cover more (with_local purge (carried s tx due))

-- where the candidates, its own and all that depend on any are among some for whom there is room, there is room for the doomed
abbrev pub DoomedHaveRoom : Type 0
DoomedHaveRoom =
    (l : Local) (tx : TxId) (c : Candidates) (all : List TxId) → AreAmong c.txs all → tx_in tx all ≡ true → AreAmong (map (λ p. p.0) l.pairs) all → length all ≤ c.limit
    → HasRoomBy (λ t. tx_in t (doomed_by l tx)) c

-- all that are in the tables of a shard
abbrev pub known_keys : Shard → List TxId
known_keys s = keys_of s.local.parts ++ (keys_of s.voters ++ keys_of s.requests)

-- where each that depends on another has a part, room for as many as there are parts, voters and requests is room for the doomed
abbrev pub KnownHaveRoom : Type 0
KnownHaveRoom =
    (s : Shard) (tx : TxId) (c : Candidates) → DependentsHaveParts s.local → AreAmong c.txs (known_keys s) → tx_in tx (known_keys s) ≡ true
    → length s.local.parts + length s.voters + length s.requests ≤ c.limit → HasRoomBy (λ t. tx_in t (doomed_by s.local tx)) c

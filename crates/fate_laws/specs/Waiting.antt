-- Who waits for whom after a legal history.
use Rattle.std.specs.Prelude.{◌≡◌, ◌⊎◌, ℕ, ◌<◌, true, false, List, Option, Some, None}
use Rattle.clv_base.specs.declared.names.TxId.{TxId}
use Rattle.clv_base.specs.declared.names.Birth.{Birth}
use Rattle.clv_base.specs.declared.logs.LogRecord.{LogRecord}
use Rattle.clv_base.specs.declared.state.Held.{Held}
use Rattle.clv_base.specs.declared.state.Stage.TheVariants.{Active}
use Rattle.clv_base.specs.declared.events.Entry.{Entry}
use Rattle.clv_base.specs.Orders.{tx_in, tx_get, is_older}
use Rattle.clv_base.specs.Logs.{in_doubt}
use Rattle.clv_base.specs.LogRules.{log_of}
use Rattle.clv_base.specs.Shards.{shard_count}
use Rattle.clv_base.specs.State.{Shard}
use Rattle.clv_base.specs.Journals.{History, comes_before, final_of}
use Rattle.clv_base.specs.History.{IsAmong, request_of, has_request, Waits, for_lock, for_room, for_commit}
use Rattle.history_laws.specs.Openings.{LegalFrom}

-- the transaction's request was taken by this entry
abbrev pub IsRequestOf : History → TxId → ℕ × Entry → Type 0
IsRequestOf h t x = IsAmong x.0 x.1 h × (request_of (x.1).event (x.1).outcome ≡ Some t)

-- the first's request was taken before the second's
abbrev pub AskedBefore : History → TxId → TxId → Type 0
AskedBefore h u t = (x : ℕ × Entry) × (y : ℕ × Entry) × IsRequestOf h u x × IsRequestOf h t y × (comes_before x y ≡ true)

-- the birth of the operation that waits; none where a request does
abbrev pub birth_waiting : {splits : List ℕ} {h : History} {states : ℕ → Shard} {t u : TxId} → Waits splits h states t u → Option Birth
birth_waiting (for_lock n walker nth birth seen op may q i) = Some birth
birth_waiting (for_room n walker nth count birth seen op may q i) = Some birth
birth_waiting (for_commit n r w i d) = None

-- it has an active part of this birth on some shard
abbrev pub IsActiveAs : (ℕ → Shard) → TxId → Birth → Type 0
IsActiveAs states u birth = (n : ℕ) × (p : Held) × (tx_get u (states n).local.parts ≡ Some p) × (p.stage ≡ Active) × (p.birth ≡ birth)

-- an operation of this birth waits for one that is active, and younger
abbrev pub WaitsForYounger : (ℕ → Shard) → Option Birth → TxId → Type 0
WaitsForYounger states waiting u = (a : Birth) × (b : Birth) × (waiting ≡ Some a) × IsActiveAs states u b × (is_older a b ≡ true)

-- it was in doubt on some shard in the logs found at opening
abbrev pub OpenedInDoubt : List ℕ → List (List LogRecord) → TxId → Type 0
OpenedInDoubt splits before u = (n : ℕ) × n < shard_count splits × (tx_in u (in_doubt n (log_of before n)) ≡ true)

-- for whom a transaction without a request may wait, by an operation of some birth, and for whom one with a request
abbrev pub WithoutRequest : List ℕ → List (List LogRecord) → History → (ℕ → Shard) → Option Birth → TxId → Type 0
WithoutRequest splits before h states waiting u = WaitsForYounger states waiting u ⊎ ((has_request u h ≡ true) ⊎ OpenedInDoubt splits before u)

abbrev pub WithRequest : List ℕ → List (List LogRecord) → History → TxId → TxId → Type 0
WithRequest splits before h t u = AskedBefore h u t ⊎ OpenedInDoubt splits before u

-- after every legal history
abbrev pub WaitsGoDown : Type 0
WaitsGoDown =
    (splits : List ℕ) (before : List (List LogRecord)) (h : History) (after : List (List LogRecord)) (t u : TxId)
    → LegalFrom splits before h after → (w : Waits splits h (final_of before h after) t u)
    → (has_request t h ≡ false → WithoutRequest splits before h (final_of before h after) (birth_waiting w) u) × (has_request t h ≡ true → WithRequest splits before h t u)

-- one waits for another, through any number
pub data WaitsThrough (splits : List ℕ) (h : History) (states : ℕ → Shard) : TxId → TxId → Type 0 where
  at_once : {t u : TxId} → Waits splits h states t u → WaitsThrough splits h states t u
  through : {t u v : TxId} → Waits splits h states t u → WaitsThrough splits h states u v → WaitsThrough splits h states t v

abbrev pub WaitsHaveNoCycle : Type 0
WaitsHaveNoCycle =
    (splits : List ℕ) (before : List (List LogRecord)) (h : History) (after : List (List LogRecord)) (t : TxId)
    → LegalFrom splits before h after → WaitsThrough splits h (final_of before h after) t t → ⊥

-- The locks of those in doubt, taken before they are closed; and first COMMITs.
use Rattle.std.specs.Prelude.{ℕ, Bool, true, false, cond, length, List, [], ◌∷◌, Option, Some, None}
use Rattle.std.specs.List.{filter}
use Rattle.clv_base.specs.declared.names.TxId.{TxId}
use Rattle.clv_base.specs.declared.logs.LogRecord.{LogRecord}
use Rattle.clv_base.specs.declared.logs.LogRecord.TheVariants.{Update, Commit, Add}
use Rattle.clv_base.specs.declared.modes.Anchor.TheVariants.{At}
use Rattle.clv_base.specs.declared.modes.Holder.{Holder}
use Rattle.clv_base.specs.declared.modes.Part.{Part}
use Rattle.clv_base.specs.declared.modes.Part.TheVariants.{I, X}
use Rattle.clv_base.specs.Orders.{tx_in}
use Rattle.clv_base.specs.Modes.{on_key}
use Rattle.clv_base.specs.Locks.{Locks, take_one, close_locks, holder_of}
use Rattle.clv_base.specs.Logs.{StandingUpdate}
use Rattle.clv_base.specs.Restarts.{old_birth, part_of}

-- a lock on a key, still active
abbrev pub open_lock : TxId → Part → Holder
open_lock tx part = holder_of tx (old_birth tx) (on_key part)

-- with the lock on the key of an UPDATE or ADD of one of the transactions
abbrev pub with_update : List TxId → LogRecord → Locks → Locks
with_update txs (Update tx key before after) locks = cond (tx_in tx txs) (take_one (At key) (open_lock tx X) locks) locks
with_update txs (Add tx key by) locks = cond (tx_in tx txs) (take_one (At key) (open_lock tx I) locks) locks
with_update txs _ locks = locks

-- with those on the keys of these writes of them
abbrev pub open_locks : List TxId → List StandingUpdate → Locks → Locks
open_locks txs [] locks = locks
open_locks txs (w ∷ ws) locks = open_locks txs ws (cond (tx_in w.tx txs) (take_one (At w.key) (open_lock w.tx (part_of w.change)) locks) locks)

-- the locks of each of the transactions are closed, one after another
abbrev pub close_each : List TxId → Locks → Locks
close_each [] locks = locks
close_each (t ∷ ts) locks = close_each ts (close_locks t locks)

-- the first place, if there is one, else the second
abbrev pub first_of : Option ℕ → Option ℕ → Option ℕ
first_of (Some a) b = Some a
first_of None b = b

-- the place where it passes
abbrev pub place_if : Bool → ℕ → Option ℕ
place_if b n = cond b (Some n) None

-- how many COMMITs a log has
abbrev pub is_commit : LogRecord → Bool
is_commit (Commit tx parts) = true
is_commit _ = false

abbrev pub commits_in : List LogRecord → ℕ
commits_in log = length (filter is_commit log)

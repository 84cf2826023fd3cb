-- The locks of writes that stand, taken one after another by the records at their LSNs.
use Rattle.std.proofs.Common.{◌≡◌, ℕ, ◌+◌, ◌<◌, cond, List, [], ◌∷◌, map, drop, get_or, length, refl, sym, ap, ◌∙◌}
use Rattle.std.proofs.lemmas.List.{drop_more}
use Rattle.clv_base.specs.declared.names.TxId.{TxId}
use Rattle.clv_base.specs.declared.logs.LogRecord.{LogRecord}
use Rattle.clv_base.specs.declared.changes.Change.{Change}
use Rattle.clv_base.specs.declared.changes.Change.TheVariants.{Sets, Adds}
use Rattle.clv_base.specs.declared.modes.Anchor.TheVariants.{At}
use Rattle.clv_base.specs.Orders.{tx_in}
use Rattle.clv_base.specs.Logs.{StandingUpdate, standing}
use Rattle.clv_base.specs.Locks.{Locks, take_one}
use Rattle.clv_base.specs.OneShard.{update_of}
use Rattle.clv_base.specs.Restarts.{part_of}
use Rattle.law_base.proofs.Lists.{elem_at}
use Rattle.log_analysis.proofs.Laws.Standing.{write_inside, write_there}
use Rattle.shard_restoring.specs.Opened.{open_lock, with_update, open_locks}

-- the lock of a write, by its record
taken_by : (txs : List TxId) (tx : TxId) (key : ℕ) (c : Change) (locks : Locks) → with_update txs (update_of tx key c) locks ≡ cond (tx_in tx txs) (take_one (At key) (open_lock tx (part_of c)) locks) locks
taken_by txs tx key (Sets before after) locks = refl
taken_by txs tx key (Adds by) locks = refl

-- the record at the next LSN
pub next_taken : (txs : List TxId) (log : List LogRecord) (lsns : List ℕ) (i : ℕ) (r : LogRecord) (now next all : Locks) → lsns ≡ map (λ w. w.lsn) (standing log) → i < length lsns → r ≡ get_or log (get_or lsns i 0) r
    → open_locks txs (drop i (standing log)) now ≡ all → next ≡ with_update txs r now → open_locks txs (drop (i + 1) (standing log)) next ≡ all
next_taken txs log lsns i r now next all are l read so_far made =
    let ws = standing log in
    let d = elem_at ws i (write_inside log lsns i are l) in
    let w = get_or ws i d in
    let record_is : r ≡ update_of w.tx w.key w.change = read ∙ write_there log lsns i are l d r in
    ap (open_locks txs (drop (i + 1) ws)) (made ∙ ap (λ q. with_update txs q now) record_is ∙ taken_by txs w.tx w.key w.change now)
    ∙ sym (ap (λ vs. open_locks txs vs now) (drop_more ws i d (write_inside log lsns i are l))) ∙ so_far

-- nobody has none
pub nobody_takes : (ws : List StandingUpdate) (locks : Locks) → open_locks [] ws locks ≡ locks
nobody_takes [] locks = refl
nobody_takes (w ∷ ws) locks = nobody_takes ws locks

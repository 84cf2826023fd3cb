-- The records that a log leaves of those that win in it.
use Rattle.std.specs.Prelude.{ℕ, Bool, ◌||◌, cond, List, [], ◌∷◌, ◌++◌, Option, Some, None}
use Rattle.std.specs.List.{cons_option}
use Rattle.clv_base.specs.declared.names.TxId.{TxId}
use Rattle.clv_base.specs.declared.logs.LogRecord.{LogRecord}
use Rattle.clv_base.specs.declared.logs.LogRecord.TheVariants.{Update, Add}
use Rattle.clv_base.specs.Orders.{tx_in}
use Rattle.clv_base.specs.declared.values.Value.{Value}
use Rattle.clv_base.specs.declared.values.Value.TheVariants as values
use Rattle.clv_base.specs.Maps.{KeyMap, map_get, map_set, plus}
use Rattle.clv_base.specs.Logs.{StandingUpdate, committed_in, in_doubt, is_winner, standing, fold_updates}
use Rattle.clv_base.specs.Needs.{Records, found_at}
use Rattle.clv_base.specs.OneShard.{update_of}
use Rattle.clv_base.specs.Restarts.{records_of, ghost_if_absent, with_ghosts}
use Rattle.shard_recovery.specs.declared.writes.Write.{Write}
use Rattle.shard_recovery.specs.declared.writes.Left.{Left}
use Rattle.shard_recovery.specs.declared.writes.Left.TheVariants.{Nothing, Num, Bytes, More}

-- committed in the log, or one of those in doubt
abbrev pub wins_in : List LogRecord → List TxId → TxId → Bool
wins_in log doubtful t = committed_in log t || tx_in t doubtful

-- what a write leaves at its key: what an UPDATE sets, or what is there and a number more
abbrev pub set_by : Option Value → Left
set_by None = Nothing
set_by (Some (values.Num n)) = Num n
set_by (Some (values.Bytes b)) = Bytes b

abbrev pub left_at : Left → Option Value → Option Value
left_at Nothing v = None
left_at (Num n) v = Some (values.Num n)
left_at (Bytes b) v = Some (values.Bytes b)
left_at (More by) v = plus by v

-- what an UPDATE or ADD of one that is kept writes
abbrev pub kept_write : (TxId → Bool) → LogRecord → Option Write
kept_write keep (Update tx key before after) = cond (keep tx) (Some (record { key = key; left = set_by after })) None
kept_write keep (Add tx key by) = cond (keep tx) (Some (record { key = key; left = More by })) None
kept_write keep _ = None

-- what the writes, given newest first, of those that are kept write, in the log's order
abbrev pub kept_writes : (TxId → Bool) → List StandingUpdate → List Write
kept_writes keep [] = []
kept_writes keep (w ∷ ws) = kept_writes keep ws ++ cons_option (kept_write keep (update_of w.tx w.key w.change)) []

-- what leaves these pairs, the first one last
abbrev pub begun : KeyMap → List Write
begun [] = []
begun (p ∷ ps) = begun ps ++ record { key = p.0; left = set_by (Some p.1) } ∷ []

-- the map after these writes, one after another
abbrev pub writes_after : List Write → KeyMap → KeyMap
writes_after [] m = m
writes_after (w ∷ ws) m = writes_after ws (map_set w.key (left_at w.left (map_get w.key m)) m)

-- the records, with a ghost at the key of an UPDATE or ADD of one of these, where there is none
abbrev pub with_ghost : List TxId → LogRecord → Records → Records
with_ghost txs (Update tx key before after) rs = cond (tx_in tx txs) (ghost_if_absent key rs (found_at key rs)) rs
with_ghost txs (Add tx key by) rs = cond (tx_in tx txs) (ghost_if_absent key rs (found_at key rs)) rs
with_ghost txs _ rs = rs

-- the records of a shard whose log is this, as a restart leaves them: the map of the winners' standing writes, with ghosts at the keys of those in
-- doubt
abbrev pub records_after : ℕ → List LogRecord → Records
records_after shard log = with_ghosts (in_doubt shard log) (standing log) (records_of (fold_updates (is_winner shard log) log []))

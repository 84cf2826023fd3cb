-- What is shown is a serial run.
use Rattle.std.specs.Prelude.{◌≡◌, ℕ, ◌<◌, Bool, true, false, List, map, Some}
use Rattle.std.specs.List.{filter}
use Rattle.clv_base.specs.declared.names.TxId.{TxId}
use Rattle.clv_base.specs.declared.logs.LogRecord.{LogRecord}
use Rattle.clv_base.specs.Orders.{tx_in}
use Rattle.clv_base.specs.Shards.{shard_count}
use Rattle.clv_base.specs.Maps.{KeyMap}
use Rattle.clv_base.specs.Logs.{committed_in, committed_somewhere, in_doubt, stands}
use Rattle.clv_base.specs.LogRules.{log_of}
use Rattle.clv_base.specs.Journals.{History}
use Rattle.clv_base.specs.History.{DoneAct}
use Rattle.protocol_laws.specs.Growth.{IsPrefixOf}
use Rattle.serial_laws.specs.Shares.{ShardAct, OnShard, BackOn, whole, ReplaysTo}
use Rattle.history_laws.specs.Going.{shard_acts_in}
use Rattle.fate_laws.specs.Leading.{requests_of}
use Rattle.standby_base.specs.Standby.{standby_members, shown}
use Rattle.standby_laws.specs.Streams.{Fed}

-- the act was done on one of these shards
abbrev pub on_shards : (ℕ → Bool) → ShardAct → Bool
on_shards f (OnShard shard number op answer) = f shard
on_shards f (BackOn shard number upto) = f shard

-- what a transaction did on the shards where it has a COMMIT on the stream: where it wrote
abbrev pub acts_shown : List (List LogRecord) → History → TxId → List DoneAct
acts_shown streams h t = whole (filter (on_shards (λ s. committed_in (log_of streams s) t)) (shard_acts_in t h))

-- the members that made their requests in the history, in its order
abbrev pub members_in : List (List LogRecord) → History → List TxId
members_in streams h = filter (λ t. tx_in t (standby_members streams)) (requests_of h)

-- the streams have all that was there at opening: they begin with the logs found, and whoever was committed in one of these is a member
pub record HaveFound (splits : List ℕ) (before streams : List (List LogRecord)) : Type 0 where
  pub begin : (n : ℕ) → n < shard_count splits → IsPrefixOf (log_of before n) (log_of streams n)
  pub members : (t : TxId) → committed_somewhere before t ≡ true → tx_in t (standby_members streams) ≡ true

-- where the streams begin with the logs found, and none of these has in doubt what another one commits, whoever was committed in one of them is a member
abbrev pub WhatWasFoundCame : Type 0
WhatWasFoundCame =
    (splits : List ℕ) (before after streams : List (List LogRecord)) (h : History) (t : TxId) → Fed splits before h after streams
    → ((n : ℕ) → n < shard_count splits → IsPrefixOf (log_of before n) (log_of streams n))
    → ((n : ℕ) (u : TxId) → n < shard_count splits → committed_somewhere before u ≡ true → tx_in u (in_doubt n (log_of before n)) ≡ false)
    → committed_somewhere before t ≡ true → tx_in t (standby_members streams) ≡ true

-- what is shown is the map to which the members' acts, where they wrote, replay one after another, in the order of the history, from the map that
-- the logs found stand for; and each operation among them gives the answer that it was told. Of an operation on a shard where its transaction wrote nothing no
-- stream tells, so it isn't ordered
abbrev pub ShownIsSerial : Type 0
ShownIsSerial =
    (splits : List ℕ) (before after streams : List (List LogRecord)) (h : History) (m : KeyMap) → Fed splits before h after streams
    → HaveFound splits before streams → shown streams ≡ Some m
    → ReplaysTo (stands before) (map (acts_shown streams h) (members_in streams h)) m

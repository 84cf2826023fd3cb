-- A shard of several that is restarted with a transaction in doubt, whose commit comes then.
use Rattle.std.specs.Prelude.{◌≡◌, ◌≤◌, take, true, List, [], ◌∷◌, Some, None}
use Rattle.clv_base.specs.declared.values.Value.TheVariants.{Num}
use Rattle.clv_base.specs.declared.names.TxId.{TxId}
use Rattle.clv_base.specs.declared.logs.LogRecord.{LogRecord}
use Rattle.clv_base.specs.declared.logs.LogRecord.TheVariants.{Update, Prepare, Restart}
use Rattle.clv_base.specs.declared.ops.Op.TheVariants.{Put}
use Rattle.clv_base.specs.declared.state.Stage.TheVariants.{Closed}
use Rattle.std.specs.List.{filter}
use Rattle.clv_base.specs.Orders.{tx_same, tx_in}
use Rattle.clv_base.specs.Logs.{committed_in, in_doubt}
use Rattle.clv_base.specs.State.{Shard}
use Rattle.clv_base.specs.Undo.{stage_of}
use Rattle.clv_base.specs.Maps.{Operates}
use Rattle.shard_laws.specs.OneShard.{Deeds, Leads, MayChoose, members_of, acts_by, map_chosen, found_asked, map_found}

abbrev pub doubtful : TxId
doubtful = record { run = 1; session = 1; serial = 1 }

-- shard 1, from a new log: a history after whose restart the transaction is in doubt, and its part is restored
abbrev pub DoubtIsRestored : Type 0
DoubtIsRestored =
    (d : Deeds) × (s : Shard)
    × Leads 1 1 [] d s × (d.told ≡ []) × (d.fell ≡ []) × (s.local.epoch ≡ 1) × (in_doubt 1 s.local.log ≡ doubtful ∷ []) × (stage_of s.local doubtful ≡ Some Closed)

-- or its abort was decided and taken here, and was not durable yet: after the restart it is in doubt again, and it fell
abbrev pub DoubtComesBack : Type 0
DoubtComesBack =
    (d : Deeds) × (s : Shard)
    × Leads 1 1 [] d s × (d.told ≡ []) × (tx_in doubtful d.fell ≡ true) × (s.local.epoch ≡ 1) × (in_doubt 1 s.local.log ≡ doubtful ∷ []) × (stage_of s.local doubtful ≡ Some Closed)

-- and one that goes on: the decision to commit comes, and it is a member with what it put before the restart
abbrev pub DoubtIsCommitted : Type 0
DoubtIsCommitted =
    (d : Deeds) × (s : Shard)
    × Leads 1 1 [] d s × (d.told ≡ []) × (d.fell ≡ []) × (s.local.epoch ≡ 1) × (committed_in s.local.log doubtful ≡ true)
    × (members_of s s.durable d ≡ doubtful ∷ []) × (acts_by (doubtful ∷ []) d.done ≡ ((1, Operates (Put 5 (Num 10))) ∷ []) ∷ [])

-- or another shard's COMMIT chooses it while it is in doubt still: then it replays to the map of its UPDATE
abbrev pub DoubtIsChosen : Type 0
DoubtIsChosen =
    (d : Deeds) × (s : Shard)
    × Leads 1 1 [] d s × (d.told ≡ []) × (d.fell ≡ []) × (s.durable ≤ 4) × MayChoose s 4 d (tx_same doubtful)
    × (acts_by (filter (tx_same doubtful) d.asked) d.done ≡ ((1, Operates (Put 5 (Num 10))) ∷ []) ∷ []) × (map_chosen 1 (take 4 s.local.log) (tx_same doubtful) ≡ (5, Num 10) ∷ [])

-- the log that a run left with it in doubt
abbrev pub doubt_log : List LogRecord
doubt_log = Restart 1 0 ∷ Update doubtful 5 None (Some (Num 10)) ∷ Prepare doubtful 0 [] ∷ []

-- a shard is opened from it in the next run, and then the decision to commit comes: it is a member with what it put in the earlier run, and
-- what later ones replay from has its value
abbrev pub DoubtIsFound : Type 0
DoubtIsFound =
    (d : Deeds) × (s : Shard)
    × Leads 1 2 doubt_log d s × (d.asked ≡ doubtful ∷ []) × (d.told ≡ []) × (d.met ≡ []) × (d.fell ≡ []) × (found_asked 1 doubt_log ≡ doubtful ∷ []) × (s.local.epoch ≡ 0)
    × (members_of s 5 d ≡ doubtful ∷ []) × (acts_by (doubtful ∷ []) d.done ≡ ((0, Operates (Put 5 (Num 10))) ∷ []) ∷ []) × (map_found 1 doubt_log (tx_same doubtful) ≡ (5, Num 10) ∷ [])

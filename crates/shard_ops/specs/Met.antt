-- What a request meets.
use Rattle.std.specs.Prelude.{◌≡◌, ◌<◌, ◌≤◌, List, length, is_none}
use Rattle.std.specs.List.{filter}
use Rattle.clv_base.specs.declared.names.TxId.{TxId}
use Rattle.clv_base.specs.declared.names.Birth.{Birth}
use Rattle.clv_base.specs.declared.modes.Need.{Need}
use Rattle.clv_base.specs.declared.logs.LogRecord.{LogRecord}
use Rattle.clv_base.specs.Orders.{tx_get, tx_union}
use Rattle.clv_base.specs.Locks.{Locks, decide, violated}
use Rattle.clv_base.specs.Logs.{has_standing}
use Rattle.clv_base.specs.declared.modes.Decision.TheVariants.{Grant as IsGranted, Wait as IsToWait, Die as IsToDie}
use Rattle.clv_base.specs.Facts.{predecessors_of}
use Rattle.cascade_undo.specs.Dependencies.{Dependencies}
use Rattle.shard_ops.specs.declared.meeting.Meeting.{Meeting}
use Rattle.shard_ops.specs.declared.meeting.Meeting.TheVariants.{Grant, Wait, Die, Crowded}

-- the predecessors that the transaction would have with these, of which no COMMIT is known
abbrev pub undecided_with : Dependencies → TxId → List TxId → List TxId
undecided_with d tx more = filter (λ p. is_none (tx_get p d.commits)) (tx_union more (predecessors_of d.pairs tx))

-- the closed holders whose locks a grant violates, and of which a write stands
abbrev pub violated_by : List LogRecord → TxId → List Need → Locks → List TxId
violated_by log tx needs locks = filter (has_standing log) (violated tx needs locks)

-- the predecessors that the transaction would have by a grant
abbrev pub undecided_by_grant : List LogRecord → Dependencies → TxId → List Need → Locks → List TxId
undecided_by_grant log d tx needs locks = undecided_with d tx (violated_by log tx needs locks)

-- a grant tells whose writes it violates, of whom not too many are undecided; the rest is the decision over the locks
abbrev pub Meets : TxId → Birth → List Need → Locks → List LogRecord → Dependencies → Meeting → Type 0
Meets tx birth needs locks log d (Grant preds) =
    (decide tx birth needs locks ≡ IsGranted) × (preds.items ≡ violated_by log tx needs locks) × (length (undecided_by_grant log d tx needs locks) ≤ 1024)
Meets tx birth needs locks log d (Crowded count) =
    (decide tx birth needs locks ≡ IsGranted) × (count ≡ length (undecided_by_grant log d tx needs locks)) × (1024 < count)
Meets tx birth needs locks log d (Wait younger) = decide tx birth needs locks ≡ IsToWait younger
Meets tx birth needs locks log d (Die older) = decide tx birth needs locks ≡ IsToDie older

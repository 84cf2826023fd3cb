-- What an operation's reply leaves: what a grant does to a part that may work, or the state without the part, or all.
use Rattle.std.proofs.Common.{◌≡◌, refl, ap, ◌⊎◌, inl, inr, ℕ, Bool, true, false, Option, Some, None}
use Rattle.clv_base.specs.declared.names.TxId.{TxId}
use Rattle.clv_base.specs.declared.names.Birth.{Birth}
use Rattle.clv_base.specs.declared.ops.Op.{Op}
use Rattle.clv_base.specs.declared.modes.Decision.{Decision}
use Rattle.clv_base.specs.declared.modes.Decision.TheVariants.{Grant, Wait, Die}
use Rattle.clv_base.specs.declared.state.Stage.{Stage}
use Rattle.clv_base.specs.declared.state.Stage.TheVariants.{Active, Closed, Gone}
use Rattle.clv_base.specs.Locks.{decide}
use Rattle.clv_base.specs.Needs.{needs_of}
use Rattle.clv_base.specs.State.{Local}
use Rattle.clv_base.specs.Undo.{stage_of}
use Rattle.clv_base.specs.OneShard.{OpReply, OpWaits, OpCrowded, OpDies, OpAnswers, seen_fits, op_reply, op_seen, op_by_stage, op_decided, op_granted, performed, without_part}
use Rattle.txn_core.specs.Sound.{may_work}

abbrev pub Leaves : Local → TxId → Birth → Op → OpReply → Type 0
Leaves l tx birth op (OpWaits younger) = Unit {0}
Leaves l tx birth op (OpCrowded count) = Unit {0}
Leaves l tx birth op (OpDies cause m) = (m ≡ without_part tx l) ⊎ (m ≡ l)
Leaves l tx birth op (OpAnswers answer m) = (m ≡ performed tx birth op l) × (may_work (stage_of l tx) ≡ true)

granted : (l : Local) (tx : TxId) (birth : Birth) (op : Op) (b : Bool) → may_work (stage_of l tx) ≡ true → Leaves l tx birth op (op_granted l tx birth op b)
granted l tx birth op true work = tt
granted l tx birth op false work = (refl, work)

decided : (l : Local) (tx : TxId) (birth : Birth) (op : Op) (d : Decision) → may_work (stage_of l tx) ≡ true → Leaves l tx birth op (op_decided l tx birth op d)
decided l tx birth op (Die older) work = inl refl
decided l tx birth op (Wait younger) work = tt
decided l tx birth op Grant work = granted l tx birth op _ work

staged : (l : Local) (tx : TxId) (birth : Birth) (op : Op) (st : Option Stage) → stage_of l tx ≡ st → Leaves l tx birth op (op_by_stage l tx birth op st)
staged l tx birth op None is = decided l tx birth op (decide tx birth (needs_of op l.records) l.locks) (ap may_work is)
staged l tx birth op (Some Active) is = decided l tx birth op (decide tx birth (needs_of op l.records) l.locks) (ap may_work is)
staged l tx birth op (Some Closed) is = inr refl
staged l tx birth op (Some (Gone None)) is = inr refl
staged l tx birth op (Some (Gone (Some doom))) is = inr refl

by_seen : (shard : ℕ) (l : Local) (tx : TxId) (birth : Birth) (seen : Option ℕ) (op : Op) (b : Bool) → Leaves l tx birth op (op_seen shard l tx birth seen op b)
by_seen shard l tx birth seen op false = inl refl
by_seen shard l tx birth seen op true = staged l tx birth op (stage_of l tx) refl

pub reply_leaves : (shard : ℕ) (l : Local) (tx : TxId) (birth : Birth) (seen : Option ℕ) (op : Op) → Leaves l tx birth op (op_reply shard l tx birth seen op)
reply_leaves shard l tx birth seen op = by_seen shard l tx birth seen op (seen_fits l.epoch seen)

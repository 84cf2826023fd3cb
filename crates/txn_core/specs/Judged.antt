-- What is found of an operation before anything is done.
use Rattle.std.specs.Prelude.{◌≡◌, true, ◌<◌, ◌≤◌, length, List, Option, Some, None}
use Rattle.clv_base.specs.declared.names.TxId.{TxId}
use Rattle.clv_base.specs.declared.names.Birth.{Birth}
use Rattle.clv_base.specs.declared.ops.Op.{Op}
use Rattle.clv_base.specs.declared.causes.AbortCause.{AbortCause}
use Rattle.clv_base.specs.declared.causes.AbortCause.TheVariants.{Died}
use Rattle.clv_base.specs.declared.modes.Decision.TheVariants.{Grant as IsGranted, Wait as IsToWait, Die as IsToDie}
use Rattle.clv_base.specs.declared.logs.LogRecord.{LogRecord}
use Rattle.clv_base.specs.Needs.{Records, needs_of}
use Rattle.clv_base.specs.Locks.{Locks, decide}
use Rattle.clv_base.specs.State.{Local, is_present}
use Rattle.clv_base.specs.Undo.{stage_of, roll_back}
use Rattle.clv_base.specs.OneShard.{OpReply, OpWaits, OpCrowded, OpDies, OpAnswers, performed, undecided_with, violated_here}
use Rattle.clv_base.specs.declared.state.Stage.{Stage}
use Rattle.clv_base.specs.declared.state.Stage.TheVariants.{Active, Closed, Gone}
use Rattle.cascade_undo.specs.Dependencies.{Dependencies}
use Rattle.shard_ops.specs.Planned.{IsPlanOf}
use Rattle.shard_ops.specs.Met.{undecided_by_grant, violated_by}
use Rattle.shard_ops.specs.declared.plan.Plan.{Plan}
use Rattle.shard_ops.specs.declared.meeting.Meeting.{Meeting}
use Rattle.shard_ops.specs.declared.meeting.Meeting.TheVariants.{Grant as MeetsGrant, Wait as MeetsWait, Die as MeetsDie, Crowded as MeetsCrowd}
use Rattle.txn_core.specs.declared.deciding.Decided.{Decided}
use Rattle.txn_core.specs.declared.deciding.Decided.TheVariants.{Grant as GrantedSo, Wait as ToWait, Die as ToDie, Crowded as TooCrowded}
use Rattle.txn_core.specs.Sound.{may_work}
use Rattle.txn_core.specs.declared.judging.Judged.{Judged}
use Rattle.txn_core.specs.declared.judging.Judged.TheVariants.{Grant, Wait, Crowded, Dead, Dying}

-- ---- what the locks say

-- the decision over the locks, with the plan where it is a grant
abbrev pub IsDecided : Records → Locks → List LogRecord → Dependencies → TxId → Birth → Op → Decided → Type 0
IsDecided rs locks log d tx birth op (GrantedSo plan preds) =
    (decide tx birth (needs_of op rs) locks ≡ IsGranted) × IsPlanOf op rs plan × (preds.items ≡ violated_by log tx (needs_of op rs) locks)
    × (length (undecided_by_grant log d tx (needs_of op rs) locks) ≤ 1024)
IsDecided rs locks log d tx birth op (TooCrowded count) =
    (decide tx birth (needs_of op rs) locks ≡ IsGranted) × (count ≡ length (undecided_by_grant log d tx (needs_of op rs) locks)) × (1024 < count)
IsDecided rs locks log d tx birth op (ToWait younger) = decide tx birth (needs_of op rs) locks ≡ IsToWait younger
IsDecided rs locks log d tx birth op (ToDie older) = decide tx birth (needs_of op rs) locks ≡ IsToDie older

-- what was met, with the plan
abbrev pub decided_by : Plan → Meeting → Decided
decided_by plan (MeetsGrant preds) = GrantedSo plan preds
decided_by plan (MeetsWait younger) = ToWait younger
decided_by plan (MeetsDie older) = ToDie older
decided_by plan (MeetsCrowd count) = TooCrowded count

-- ---- what it comes to

-- a death, by whether there is a part to be rolled back
abbrev pub death_by : Option Stage → AbortCause → Judged
death_by None cause = Dead cause
death_by (Some Active) cause = Dying cause
death_by (Some Closed) cause = Dying cause
death_by (Some (Gone doom)) cause = Dead cause

abbrev pub judged_by : Option Stage → Decided → Judged
judged_by stage (GrantedSo plan preds) = Grant plan preds
judged_by stage (ToWait younger) = Wait younger
judged_by stage (ToDie older) = death_by stage (Died older)
judged_by stage (TooCrowded count) = Crowded count

-- the protocol's reply is what was found: of a grant with the plan that leads to it, of a death with or without a part to be rolled back
abbrev pub IsJudged : Local → TxId → Birth → Op → OpReply → Judged → Type 0
IsJudged l tx birth op reply (Grant plan preds) =
    (reply ≡ OpAnswers plan.answer (performed tx birth op l)) × IsPlanOf op l.records plan × (preds.items ≡ violated_here l tx op) × (may_work (stage_of l tx) ≡ true)
    × (length (undecided_with l tx preds.items) ≤ 1024)
IsJudged l tx birth op reply (Wait younger) = reply ≡ OpWaits younger
IsJudged l tx birth op reply (Crowded count) = reply ≡ OpCrowded count
IsJudged l tx birth op reply (Dead cause) = reply ≡ OpDies cause l
IsJudged l tx birth op reply (Dying cause) = (reply ≡ OpDies cause (roll_back tx l)) × (is_present (stage_of l tx) ≡ true)

-- The causes that transactions are told.
use Rattle.std.specs.Prelude.{◌≡◌, ℕ, List, ◌∷◌, ◌++◌, Option, ⊤}
use Rattle.clv_base.specs.declared.names.TxId.{TxId}
use Rattle.clv_base.specs.declared.names.Birth.{Birth}
use Rattle.clv_base.specs.declared.ops.Op.{Op as Operation}
use Rattle.clv_base.specs.declared.logs.LogRecord.{LogRecord}
use Rattle.clv_base.specs.declared.causes.AbortCause.{AbortCause}
use Rattle.clv_base.specs.declared.causes.AbortCause.TheVariants.{Predecessor}
use Rattle.clv_base.specs.declared.events.Event.{Event}
use Rattle.clv_base.specs.declared.events.Event.TheVariants.{Op, RollTo, Request, Look}
use Rattle.clv_base.specs.declared.events.Outcome.{Outcome}
use Rattle.clv_base.specs.declared.events.Outcome.TheVariants.{Dead, Aborted}
use Rattle.clv_base.specs.declared.events.Entry.{Entry}
use Rattle.clv_base.specs.Journals.{History}
use Rattle.clv_base.specs.History.{CauseStands}
use Rattle.history_laws.specs.Openings.{LegalFrom}

-- the entry tells the transaction this cause: an operation, a going back or a request that died, or a look that found it aborted
pub data TellsCause : Event → Outcome → TxId → AbortCause → Type 0 where
  op_died : (tx : TxId) (birth : Birth) (nth : ℕ) (seen : Option ℕ) (op : Operation) (cause : AbortCause) → TellsCause (Op tx birth nth seen op) (Dead cause) tx cause
  going_back_died : (tx : TxId) (nth seen upto : ℕ) (cause : AbortCause) → TellsCause (RollTo tx nth seen upto) (Dead cause) tx cause
  request_died : (tx : TxId) (touched : List (ℕ × ℕ)) (cause : AbortCause) → TellsCause (Request tx touched) (Dead cause) tx cause
  look_found : (tx : TxId) (cause : AbortCause) → TellsCause (Look tx) (Aborted cause) tx cause

-- the predecessor whose abort it tells is another transaction
abbrev pub IsOfAnother : TxId → AbortCause → Type 0
IsOfAnother tx (Predecessor doom) = tx ≡ doom → ⊥
IsOfAnother tx _ = ⊤

-- each of them stands in the history
abbrev pub CausesStand : Type 0
CausesStand =
    (splits : List ℕ) (before : List (List LogRecord)) (h : History) (after : List (List LogRecord)) (so_far rest : History) (e : ℕ × Entry) (tx : TxId) (cause : AbortCause)
    → LegalFrom splits before h after → so_far ++ e ∷ rest ≡ h → TellsCause (e.1).event (e.1).outcome tx cause → CauseStands before so_far after e tx cause × IsOfAnother tx cause

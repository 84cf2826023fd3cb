-- What closes a part.
use Rattle.std.specs.Prelude.{◌≡◌, ℕ, List, [], ◌∷◌, length}
use Rattle.clv_base.specs.declared.names.TxId.{TxId}
use Rattle.clv_base.specs.declared.logs.LogRecord.{LogRecord}
use Rattle.clv_base.specs.declared.logs.LogRecord.TheVariants.{Commit, Prepare}
use Rattle.txn_core.specs.declared.plans.ClosingPlan.{ClosingPlan}
use Rattle.txn_core.specs.declared.plans.ClosingPlan.TheVariants.{Commit as CommitPlan, Prepare as PreparePlan, Silent as SilentPlan}
use Rattle.txn_core.specs.declared.plans.Closing.{Closing}
use Rattle.txn_core.specs.declared.plans.Closing.TheVariants.{Commit as CommitWritten, Prepare as PrepareWritten, Silent as NothingWritten}

-- the record that is to be written
abbrev pub planned : TxId → ℕ → ClosingPlan → List LogRecord
planned tx home CommitPlan = Commit tx [] ∷ []
planned tx home (PreparePlan ps) = Prepare tx home ps ∷ []
planned tx home SilentPlan = []

-- the record that was written, at the log's end
abbrev pub IsClosing : List LogRecord → TxId → ℕ → List LogRecord → Closing → Type 0
IsClosing log tx home more (CommitWritten lsn) = (more ≡ Commit tx [] ∷ []) × (lsn ≡ length log)
IsClosing log tx home more (PrepareWritten lsn) = ((ps : List TxId) × (more ≡ Prepare tx home ps ∷ [])) × (lsn ≡ length log)
IsClosing log tx home more NothingWritten = more ≡ []

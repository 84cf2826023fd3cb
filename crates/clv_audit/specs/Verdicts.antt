-- What an audit answers: whether a report is true of the pairs before it and of what the logs stand for after it.
use Rattle.std.specs.Prelude.{◌≡◌, ◌≢◌, ◌<◌, ℕ, List, length}
use Rattle.clv_base.specs.Maps.{KeyMap, map_get}
use Rattle.report_reading.specs.declared.told.Reported.{Reported}
use Rattle.report_reading.specs.Texts.{IsReport}
use Rattle.clv_audit.specs.Right.{AreRight, IsFirstWrong, last_map}
pub use Rattle.clv_audit.specs.declared.verdict.Verdict.{Verdict}
pub use Rattle.clv_audit.specs.declared.verdict.Verdict.TheVariants.{Wrong, Open, WrongMap, Yes}

-- the least key at which two maps differ
pub record IsFirstDifference (key : ℕ) (m n : KeyMap) : Type 0 where
  pub differ : map_get key m ≢ map_get key n
  pub first : (j : ℕ) → j < key → map_get j m ≡ map_get j n

-- the first of the four that applies: a transaction that no serial run has; transactions that are unsettled, so that nothing is known of the logs; a
-- key at which the logs stand for something else; and else all is true
abbrev pub IsVerdict : Reported → KeyMap → Verdict → Type 0
IsVerdict r left (Wrong place) = IsFirstWrong r.pairs r.txs place
IsVerdict r left (Open count) = AreRight r.pairs r.txs × (r.unsettled ≢ 0) × (count ≡ r.unsettled)
IsVerdict r left (WrongMap key) = AreRight r.pairs r.txs × (r.unsettled ≡ 0) × IsFirstDifference key (last_map r.pairs r.txs) left
IsVerdict r left (Yes count) = AreRight r.pairs r.txs × (r.unsettled ≡ 0) × (last_map r.pairs r.txs ≡ left) × (count ≡ length r.txs)

-- of the bytes, which are a report
abbrev pub IsVerdictOf : List ℕ → KeyMap → Verdict → Type 0
IsVerdictOf bytes left v = (r : Reported) × IsReport bytes r × IsVerdict r left v

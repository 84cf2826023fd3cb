-- The text of what a report tells: the lines of a `show`, perhaps none, then those of a run's report.
use Rattle.std.specs.Prelude.{◌≡◌, ◌≤◌, ℕ, Bool, true, ◌&&◌, List, [], ◌∷◌, ◌++◌, map, length}
use Rattle.std.specs.List.{list_all}
use Rattle.serde_json.specs.Data.{Data}
use Rattle.clv_base.specs.declared.names.TxId.{TxId}
use Rattle.clv_base.specs.declared.values.Value.{Value as ValueType}
use Rattle.clv_base.specs.Folding.{IsRising}
use Rattle.session_books.specs.declared.counts.Counts.{Counts}
use Rattle.script_lang.specs.Laws.{is_word}
use Rattle.script_lang.specs.Grammar.{most_bytes}
use Rattle.report_text.specs.Lines.{line, pair, transaction}
use Rattle.report_text.specs.Counts.{summary}
use Rattle.report_reading.specs.Told.{ReportedTx, Reported, fits_pair, can_be_told}
pub use Rattle.report_reading.specs.declared.told.Line.{Line}
pub use Rattle.report_reading.specs.declared.told.Line.TheVariants.{Pair, Tx, Sums}

-- ---- what a line tells

-- a line doesn't tell the run
abbrev pub named : ReportedTx → TxId
named t = record { run = 0; session = t.session; serial = t.serial }

abbrev pub data_of : Line → Data
data_of (Pair key value) = pair (key, value)
data_of (Tx t) = transaction (named t) t.acts
data_of (Sums counts) = summary counts

abbrev pub fits_counts : Counts → Bool
fits_counts c = is_word c.acknowledged && (is_word c.unsettled && is_word c.aborted)

abbrev pub can_stand : Line → Bool
can_stand (Pair key value) = fits_pair (key, value)
can_stand (Tx t) = can_be_told t
can_stand (Sums counts) = fits_counts counts

abbrev pub line_text : Line → List ℕ
line_text l = line (data_of l)

-- ---- all lines of a report

abbrev pub counts_of : Reported → Counts
counts_of r = record { acknowledged = length r.txs; unsettled = r.unsettled; aborted = r.aborted }

abbrev pub pair_lines : List (ℕ × ValueType) → List Line
pair_lines ps = map (λ p. Pair p.0 p.1) ps

abbrev pub tx_lines : List ReportedTx → List Line
tx_lines ts = map Tx ts

abbrev pub lines_of : Reported → List Line
lines_of r = pair_lines r.pairs ++ (tx_lines r.txs ++ Sums (counts_of r) ∷ [])

-- those of a map by rising keys, each line as it may stand
pub record CanBeReported (r : Reported) : Type 0 where
  pub rises : IsRising r.pairs
  pub each : list_all can_stand (lines_of r) ≡ true

-- ---- texts

abbrev pub texts_of : List Line → List (List ℕ)
texts_of ls = map line_text ls

abbrev pub joined : List (List ℕ) → List ℕ
joined [] = []
joined (l ∷ ls) = l ++ joined ls

abbrev pub text_of : Reported → List ℕ
text_of r = joined (texts_of (lines_of r))

-- the bytes are the text of exactly this
pub record IsReport (bytes : List ℕ) (r : Reported) : Type 0 where
  pub short : length bytes ≤ most_bytes
  pub can : CanBeReported r
  pub text : bytes ≡ text_of r

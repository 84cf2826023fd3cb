-- What the lines of a report so far come to.
use Rattle.std.specs.Prelude.{◌≡◌, ℕ, Bool, true, ◌&&◌, nat_lt, List, [], ◌∷◌, ◌++◌, length, Option, MatchOption}
use Rattle.std.specs.List.{list_all}
use Rattle.clv_base.specs.declared.values.Value.{Value as ValueType}
use Rattle.clv_base.specs.Folding.{IsRising}
use Rattle.session_books.specs.declared.counts.Counts.{Counts}
use Rattle.report_reading.specs.Told.{ReportedTx, Reported}
use Rattle.report_reading.specs.Texts.{Line, Sums, pair_lines, tx_lines, lines_of, line_text, texts_of, can_stand, fits_counts, CanBeReported}
use Rattle.report_reading.specs.Faults.{BeginsOne}
use Rattle.report_reading.specs.declared.told.Taken.{Taken}
use Rattle.report_reading.specs.declared.told.Taken.TheVariants.{Goes, Ends, Nowhere}

-- pairs, and transactions behind them
pub record SoFar : Type 0 where
  pub pairs : List (ℕ × ValueType)
  pub txs : List ReportedTx

abbrev pub so_far : List (ℕ × ValueType) → List ReportedTx → SoFar
so_far ps ts = record { pairs = ps; txs = ts }

abbrev pub lines_so_far : SoFar → List Line
lines_so_far s = pair_lines s.pairs ++ tx_lines s.txs

pub record CanStand (s : SoFar) : Type 0 where
  pub rises : IsRising s.pairs
  pub each : list_all can_stand (lines_so_far s) ≡ true

-- whether the key is above all of these
abbrev pub is_above : ℕ → List (ℕ × ValueType) → Bool
is_above k [] = true
is_above k (p ∷ ps) = nat_lt p.0 k && is_above k ps

-- the line is what is written of this; or of nothing that may stand
abbrev pub Tells : List ℕ → Option Line → Type 0
Tells bytes found = MatchOption found ((l : Line) → can_stand l ≡ true → bytes ≡ line_text l → ⊥) (λ l. (can_stand l ≡ true) × (bytes ≡ line_text l))

-- counts that fit these lines
abbrev pub IsLast : SoFar → Counts → Type 0
IsLast s c = (c.acknowledged ≡ length s.txs) × (fits_counts c ≡ true)

-- a line goes behind the others; or it is the last one; or no report goes on with it
abbrev pub HasPlace : SoFar → SoFar → Line → Taken → Type 0
HasPlace old new line Goes = lines_so_far new ≡ lines_so_far old ++ line ∷ []
HasPlace old new line (Ends c) = (new ≡ old) × (line ≡ Sums c) × IsLast old c
HasPlace old new line Nowhere = (r : Reported) (behind : List Line) → CanBeReported r → lines_of r ≡ lines_so_far old ++ line ∷ behind → ⊥

-- and so with its bytes
abbrev pub Comes : SoFar → SoFar → List ℕ → Taken → Type 0
Comes old new bytes Goes = texts_of (lines_so_far new) ≡ texts_of (lines_so_far old) ++ bytes ∷ []
Comes old new bytes (Ends c) = (new ≡ old) × (bytes ≡ line_text (Sums c)) × IsLast old c
Comes old new bytes Nowhere = BeginsOne (texts_of (lines_so_far old) ++ bytes ∷ []) → ⊥

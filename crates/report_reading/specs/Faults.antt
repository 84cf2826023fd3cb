-- Where a text that is no report has its first fault.
use Rattle.std.specs.Prelude.{◌≡◌, ◌<◌, ◌≤◌, ℕ, suc, ◌==◌, cond, List, [], ◌∷◌, ◌++◌, length}
use Rattle.script_lang.specs.Grammar.{before_line, most_bytes}
use Rattle.report_reading.specs.Told.{Reported}
use Rattle.report_reading.specs.Texts.{CanBeReported, IsReport, lines_of, texts_of}

-- the lines of a text, each up to its line feed; what stands behind the last line feed is the last line
abbrev pub cut : List ℕ → List (List ℕ)
cut [] = []
cut (b ∷ bs) = cond (b == 10) ((b ∷ []) ∷ cut bs) (before_line b (cut bs))

-- some report begins with these lines
abbrev pub BeginsOne : List (List ℕ) → Type 0
BeginsOne lines = (r : Reported) × (behind : List (List ℕ)) × CanBeReported r × (texts_of (lines_of r) ≡ lines ++ behind)

-- the first line after which no report goes on, counted from 1; where the text ends too soon, the line after its last; 0 where there are too many
-- bytes
pub data IsFault (bytes : List ℕ) : ℕ → Type 0 where
  at_line :
      (front : List (List ℕ)) (line : List ℕ) (behind : List (List ℕ))
      → length bytes ≤ most_bytes → cut bytes ≡ front ++ line ∷ behind → BeginsOne front → (BeginsOne (front ++ line ∷ []) → ⊥)
      → IsFault bytes (suc (length front))
  at_end :
      length bytes ≤ most_bytes → BeginsOne (cut bytes) → ((r : Reported) → IsReport bytes r → ⊥)
      → IsFault bytes (suc (length (cut bytes)))
  too_long : most_bytes < length bytes → IsFault bytes 0

-- no report has a fault
abbrev pub ReportsHaveNoFault : Type 0
ReportsHaveNoFault = (bytes : List ℕ) (r : Reported) (line : ℕ) → IsReport bytes r → IsFault bytes line → ⊥

-- a text is the report of one content alone
abbrev pub ReportsTellOneThing : Type 0
ReportsTellOneThing = (bytes : List ℕ) (r other : Reported) → IsReport bytes r → IsReport bytes other → r ≡ other

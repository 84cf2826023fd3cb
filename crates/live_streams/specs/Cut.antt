-- How the bytes that were read are cut into lines.
use Rattle.std.specs.Prelude.{◌≡◌, ℕ, false, ◌==◌, nat_lt, List, ◌++◌, length, take}
use Rattle.std.specs.List.{AllByRecursion}
use Rattle.script_lang.specs.Grammar.{lines_of}
use Rattle.live_lines.specs.Cutting.{Begun, most_bytes}
use Rattle.live_lines.specs.declared.calls.Asked.{Asked}
use Rattle.live_lines.specs.declared.calls.Refusal.{Refusal}
use Rattle.live_streams.specs.Inputs.{AreTaken}

-- what is kept of a line
abbrev pub kept_of : List ℕ → Begun
kept_of line = record { front = take most_bytes line; is_cut = nat_lt most_bytes (length line) }

abbrev pub HasNoFeed : List ℕ → Type 0
HasNoFeed line = AllByRecursion (λ b. (b == 10) ≡ false) line

-- a line has begun, and didn't end so far
pub record HasBegun (begun : Begun) (line : List ℕ) : Type 0 where
  pub no_feed : HasNoFeed line
  pub kept : begun ≡ kept_of line

-- a line that has begun, and the bytes behind it: the lines that end there were handed out or refused, and another one has begun
pub record IsCut (sessions : ℕ) (line bytes : List ℕ) (begun : Begun) (handed : List (ℕ × Asked)) (refused : List Refusal) : Type 0 where
  pub whole : List (List ℕ)
  pub last : List ℕ
  pub begins : HasBegun begun last
  pub lines : (more : List ℕ) → lines_of (line ++ bytes ++ more) ≡ whole ++ lines_of (last ++ more)
  pub taken : AreTaken sessions whole handed refused

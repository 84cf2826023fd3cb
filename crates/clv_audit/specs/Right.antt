-- Whether the transactions of a report are a serial run.
use Rattle.std.specs.Prelude.{◌≡◌, ◌<◌, ℕ, suc, List, [], ◌∷◌, ◌++◌, map, length}
use Rattle.clv_base.specs.declared.ops.Answer.{Answer}
use Rattle.clv_base.specs.Maps.{KeyMap, Acts, replay_map, replay_answers}
use Rattle.law_base.specs.Items.{AllLater}
use Rattle.session_books.specs.Done.{Done, Did, WentBack}
use Rattle.report_reading.specs.declared.told.ReportedTx.{ReportedTx}
use Rattle.report_reading.specs.Told.{numbered}

-- the answers that a transaction was given
abbrev pub answers_of : List Done → List Answer
answers_of [] = []
answers_of (Did op a ∷ ds) = a ∷ answers_of ds
answers_of (WentBack upto ∷ ds) = answers_of ds

abbrev pub all_answers : List ReportedTx → List (List Answer)
all_answers ts = map (λ t. answers_of t.acts) ts

-- what the transactions did
abbrev pub all_acts : List ReportedTx → List Acts
all_acts ts = map (λ t. numbered t.acts) ts

-- of two of one session the later one has the greater serial
abbrev pub SerialRises : ReportedTx → ReportedTx → Type 0
SerialRises t u = t.session ≡ u.session → t.serial < u.serial

-- each session's serials rise, and one after another, from this map, the transactions have the answers that they were given
pub record AreRight (m : KeyMap) (ts : List ReportedTx) : Type 0 where
  pub serials : AllLater SerialRises ts
  pub answers : replay_answers m (all_acts ts) ≡ all_answers ts

-- the transaction at this place, counted from 1, is the first with which they aren't
pub record IsFirstWrong (m : KeyMap) (ts : List ReportedTx) (place : ℕ) : Type 0 where
  pub front : List ReportedTx
  pub tx : ReportedTx
  pub behind : List ReportedTx
  pub all : ts ≡ front ++ tx ∷ behind
  pub at : place ≡ suc (length front)
  pub right : AreRight m front
  pub wrong : AreRight m (front ++ tx ∷ []) → ⊥

-- the map after all of them
abbrev pub last_map : KeyMap → List ReportedTx → KeyMap
last_map m ts = replay_map m (all_acts ts)

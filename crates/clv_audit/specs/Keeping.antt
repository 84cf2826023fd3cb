-- What the acts of a transaction that still stand wrote, so that it can go back.
use Rattle.std.specs.Prelude.{◌≡◌, ◌≢◌, ◌⊎◌, ◌↔◌, ◌<◌, ℕ, Bool, true, nat_le, not, List, [], ◌∷◌, ◌++◌, map, Option, Some, None, IsTrue}
use Rattle.std.specs.List.{filter, list_all}
use Rattle.clv_base.specs.declared.values.Value.{Value as ValueType}
use Rattle.clv_base.specs.declared.ops.Op.{Op}
use Rattle.clv_base.specs.declared.ops.Op.TheVariants.{Get, Put, Del, Scan, Add}
use Rattle.clv_base.specs.Maps.{KeyMap, map_set, op_answer, op_after}
use Rattle.session_books.specs.Done.{Done, Did, WentBack}
use Rattle.report_reading.specs.declared.told.ReportedTx.{ReportedTx}
use Rattle.report_reading.specs.Told.{can_be_told}
use Rattle.clv_audit.specs.declared.steps.Step.{Step}
use Rattle.clv_audit.specs.declared.steps.Written.{Written}

-- the key that an operation may write
abbrev pub written_key : Op → Option ℕ
written_key (Get k) = None
written_key (Put k v) = Some k
written_key (Del k) = Some k
written_key (Scan lo hi) = None
written_key (Add k by) = Some k

-- the map before an act, by that after it
abbrev pub undone_by : Option Written → KeyMap → KeyMap
undone_by None m = m
undone_by (Some w) m = map_set w.key w.before m

-- the map before all of these acts, by that after them
abbrev pub undone : List Step → KeyMap → KeyMap
undone [] m = m
undone (s ∷ ss) m = undone_by s.written (undone ss m)

abbrev pub steps_above : ℕ → List Step → List Step
steps_above upto ss = filter (λ s. not (nat_le s.number upto)) ss

abbrev pub steps_up_to : ℕ → List Step → List Step
steps_up_to upto ss = filter (λ s. nat_le s.number upto) ss

abbrev pub numbers_of : List Step → List ℕ
numbers_of ss = map (λ s. s.number) ss

-- one act more stands, between these maps
abbrev pub IsNextStep : ℕ → KeyMap → KeyMap → List Step → List Step → Type 0
IsNextStep number before after old new = (s : Step) × (new ≡ old ++ s ∷ []) × (s.number ≡ number) × (undone_by s.written after ≡ before)

-- what an act leaves
abbrev pub ActGoes : Done → ℕ → KeyMap → List Step → Bool → KeyMap → List Step → Type 0
ActGoes (Did op a) number before old right after new = (IsTrue right ↔ (a ≡ op_answer op before)) × (after ≡ op_after op before) × IsNextStep number before after old new
ActGoes (WentBack upto) number before old right after new = (right ≡ true) × (after ≡ undone (steps_above upto old) before) × IsNextStep number after after (steps_up_to upto old) new

-- transactions that may be run: sessions from 1 to 64, serials from 1, and goings back to where each still can
abbrev pub CanBeRun : List ReportedTx → Type 0
CanBeRun ts = list_all can_be_told ts ≡ true

-- the least key at which two pairs differ
abbrev pub Splits : ℕ × ValueType → ℕ × ValueType → ℕ → Type 0
Splits p q key = ((p.0 ≡ q.0) × (p.1 ≢ q.1) × (key ≡ p.0)) ⊎ (((p.0 < q.0) × (key ≡ p.0)) ⊎ ((q.0 < p.0) × (key ≡ q.0)))

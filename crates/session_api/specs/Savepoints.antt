-- The savepoints of a session's active transaction, and going back to one.
use Rattle.std.specs.Prelude.{◌≡◌, ⊤, ℕ, suc, ◌≤◌, nat_le, Bool, true, false, List, ◌∷◌, [], ◌++◌, Option, Some, None, Result, Ok, Err}
use Rattle.std.specs.List.{AllByRecursion, filter}
use Rattle.clv_base.specs.Backs.{stands_for_back}
use Rattle.clv_base.specs.Sessions.{SessionState, is_whole_now}
use Rattle.script_lang.specs.Savepoints.{Savepoints}
use Rattle.script_runs.specs.Seen.{Going}
use Rattle.session_api.specs.declared.progress.Progress.{Progress}
use Rattle.session_api.specs.declared.progress.Progress.TheVariants.{Idle, Active, Worn, Undone, Asked, Ended}
use Rattle.session_api.specs.declared.savepoints.SaveError.{SaveError}
use Rattle.session_api.specs.declared.savepoints.SaveError.TheVariants.{NoTx, Memory}
use Rattle.session_api.specs.Progresses.{acts_in}

-- a going back of p may lead to after so many acts: no earlier one went back over that
abbrev pub StandsIn : SessionState → ℕ → Type 0
StandsIn p upto = stands_for_back (suc p.nth) upto p.backs ≡ true

abbrev pub AllStand : SessionState → List ℕ → Type 0
AllStand p saves = AllByRecursion (StandsIn p) saves

-- one of the active transaction may, if there is one
abbrev pub StandsFor : Progress → ℕ → Type 0
StandsFor Idle upto = ⊤
StandsFor (Active p) upto = StandsIn p upto
StandsFor (Worn p) upto = StandsIn p upto
StandsFor (Undone p n to) upto = StandsIn p upto
StandsFor (Asked p home stamp) upto = ⊤
StandsFor (Ended p) upto = ⊤

-- so it may to each of these; and unless one was left undone each of its goings back was whole
abbrev pub Saved : Progress → List ℕ → Type 0
Saved Idle saves = ⊤
Saved (Active p) saves = (is_whole_now p ≡ true) × AllStand p saves
Saved (Worn p) saves = AllStand p saves
Saved (Undone p n to) saves = AllStand p saves
Saved (Asked p home stamp) saves = ⊤
Saved (Ended p) saves = ⊤

-- where the savepoints of a script lead
abbrev pub leads_of : List (ℕ × ℕ) → List ℕ
leads_of [] = []
leads_of (s ∷ ss) = s.1 ∷ leads_of ss

-- a later one leads no less far
abbrev pub LeadRising : List ℕ → Type 0
LeadRising [] = ⊤
LeadRising (u ∷ us) = AllByRecursion (λ v. u ≤ v) us × LeadRising us

-- ---- a savepoint

-- with the active transaction's acts so far, if there is one
abbrev pub SavedAt : Option ℕ → Result ℕ SaveError → List ℕ → List ℕ → Type 0
SavedAt (Some nth) (Ok upto) saves saves' = (upto ≡ nth) × (saves' ≡ saves ++ upto ∷ [])
SavedAt (Some nth) (Err Memory) saves saves' = saves' ≡ saves
SavedAt (Some nth) (Err NoTx) saves saves' = ⊥
SavedAt None (Ok upto) saves saves' = ⊥
SavedAt None (Err NoTx) saves saves' = saves' ≡ saves
SavedAt None (Err Memory) saves saves' = ⊥

abbrev pub SaveCalled : Progress → Result ℕ SaveError → List ℕ → List ℕ → Type 0
SaveCalled s r saves saves' = SavedAt (acts_in s) r saves saves'

-- ---- going back

-- those later are forgotten, also where it was left undone: on lower shards it was done
abbrev pub saves_up_to : ℕ → List ℕ → List ℕ
saves_up_to upto saves = filter (λ u. nat_le u upto) saves

abbrev pub saves_gone : Progress → ℕ → List ℕ → List ℕ
saves_gone (Active p) upto saves = saves_up_to upto saves
saves_gone Idle upto saves = saves
saves_gone (Worn p) upto saves = saves
saves_gone (Undone p n to) upto saves = saves
saves_gone (Asked p home stamp) upto saves = saves
saves_gone (Ended p) upto saves = saves

-- where it is one of them
abbrev pub saves_rolled : Bool → Progress → ℕ → List ℕ → List ℕ
saves_rolled true s upto saves = saves_gone s upto saves
saves_rolled false s upto saves = saves

-- ---- to whoever runs a script

-- what the active transaction may go back over
abbrev pub going_of : Progress → Savepoints → Option Going
going_of Idle saves = None
going_of (Active p) saves = Some (record { saves = saves; written = p.written })
going_of (Worn p) saves = None
going_of (Undone p n to) saves = None
going_of (Asked p home stamp) saves = None
going_of (Ended p) saves = None

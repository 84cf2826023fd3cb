-- What calls of a table of locks do, whatever the table keeps its rows in.
use Rattle.std.specs.Prelude.{◌≡◌, Bool, true, false, List, [], ◌∷◌, Option}
use Rattle.std.specs.List.{list_any}
use Rattle.clv_base.specs.declared.modes.Anchor.{Anchor}
use Rattle.clv_base.specs.Locks.{Locks, decide, violated, take_all, split_gap, close_locks, release, is_free}
use Rattle.lock_table.specs.Rows.{gaps_held, holders_on, GivesUpOne}
use Rattle.callers.specs.declared.lock_calls.LockCall.{LockCall}
use Rattle.callers.specs.declared.lock_calls.LockCall.TheVariants.{Take, SplitGap, ClosePart, Release, ReleaseNext, GapCount, Decide, Violated, IsFree, Holders}
use Rattle.callers.specs.declared.lock_answers.LockAnswer.{LockAnswer}
use Rattle.callers.specs.declared.lock_answers.LockAnswer.TheVariants.{Done, GaveUp, Count, Decided, Txs, Free, Held}

-- what a call does: its answer, and the rows before and after it
abbrev pub Does : LockCall → LockAnswer → Locks → Locks → Type 0
Does (Take tx birth needs) answer before after = (answer ≡ Done) × (after ≡ take_all tx birth needs.now before)
Does (SplitGap tx lower new) answer before after = (answer ≡ Done) × (after ≡ split_gap lower new before)
Does (ClosePart tx) answer before after = (answer ≡ Done) × (after ≡ close_locks tx before)
Does (Release tx) answer before after = (answer ≡ Done) × (after ≡ release (tx ∷ []) before)
Does (ReleaseNext tx) answer before after = (anchor : Option Anchor) × (answer ≡ GaveUp anchor) × GivesUpOne tx anchor before after
Does (GapCount anchor) answer before after = (answer ≡ Count (gaps_held anchor before)) × (after ≡ before)
Does (Decide tx birth needs) answer before after = (answer ≡ Decided (decide tx birth needs.now before)) × (after ≡ before)
Does (Violated tx needs) answer before after = (answer ≡ Txs (violated tx needs.now before)) × (after ≡ before)
Does (IsFree anchor) answer before after = (answer ≡ Free (is_free anchor before)) × (after ≡ before)
Does (Holders anchor) answer before after = (answer ≡ Held (holders_on anchor before)) × (after ≡ before)

-- what calls do, one after another: an answer for each, and the rows before and after all of them
abbrev pub Runs : List LockCall → List LockAnswer → Locks → Locks → Type 0
Runs [] answers before after = (answers ≡ []) × (after ≡ before)
Runs (c ∷ cs) answers before after =
    (first : LockAnswer) × (rest : List LockAnswer) × (between : Locks) × (answers ≡ first ∷ rest) × Does c first before between × Runs cs rest between after

-- whether it is left to the table which lock goes
abbrev pub is_choice : LockCall → Bool
is_choice (ReleaseNext tx) = true
is_choice _ = false

-- calls that leave no choice have the same answers over all tables with these rows, and the same rows come of them
abbrev pub TablesAnswerAlike : Type 0
TablesAnswerAlike =
    (calls : List LockCall) (told heard : List LockAnswer) (before after other : Locks)
    → list_any is_choice calls ≡ false → Runs calls told before after → Runs calls heard before other → (told ≡ heard) × (after ≡ other)

-- What a try's lines tell, as far as they are done.
use Rattle.std.specs.Prelude.{◌≡◌, ℕ, Bool, true, List, [], map, length, Option, Some, None, Result, Ok, Err}
use Rattle.clv_base.specs.declared.names.TxId.{TxId}
use Rattle.clv_base.specs.declared.names.Birth.{Birth}
use Rattle.clv_base.specs.declared.ops.Op.{Op}
use Rattle.clv_base.specs.Maps.{Operates, GoesBack}
use Rattle.clv_base.specs.Journals.{History}
use Rattle.script_lang.specs.declared.actions.Action.{Action}
use Rattle.script_lang.specs.declared.following.Following.{Following}
use Rattle.script_lang.specs.Following.{Way}
use Rattle.script_lang.specs.Places.{StandsAt}
use Rattle.session_books.specs.Done.{Done}
use Rattle.script_runs.specs.declared.ends.StopCause.TheVariants.{Memory}
use Rattle.script_runs.specs.declared.ends.TryEnd.{TryEnd}
use Rattle.script_runs.specs.declared.ends.TryEnd.TheVariants.{Stopped}
use Rattle.script_runs.specs.Acts.{answers_in, KeepsTo, next_of, written_by, is_touched, AreActs}
use Rattle.script_runs.specs.Seen.{Active, Seen, Going, Grows}
use Rattle.script_runs.specs.Told.{OperateTold, BackTold}

-- the active transaction's entries are those of what its lines asked for so far
pub record HasDone (tx : TxId) (birth : Birth) (lines : List Action) (u v : Seen) : Type 0 where
  pub acts : List Done
  pub entries : History
  pub touched : ℕ → Bool
  pub follows : KeepsTo lines acts
  pub acts_are : AreActs u.splits tx birth 1 [] acts entries
  pub grows : Grows entries u v
  pub standing_is : v.standing ≡ Active tx birth (length acts) touched
  pub only : (n : ℕ) → touched n ≡ true → is_touched entries n ≡ true
  pub all : (n : ℕ) → is_touched entries n ≡ true → touched n ≡ true

-- the next step was not done: an operation that wasn't answered told this, or a going back; or memory was wanting before it
pub data Fails (tx : TxId) (birth : Birth) (lines : List Action) (acts : List Done) (touched : ℕ → Bool) (end : TryEnd) (w v : Seen) : Type 0 where
  at_operation : (op : Op) → next_of lines acts ≡ Some (Operates op) → OperateTold tx birth (length acts) touched op (Err end) w v → Fails tx birth lines acts touched end w v
  at_going_back :
      (upto : ℕ) → next_of lines acts ≡ Some (GoesBack upto) → BackTold tx birth (length acts) touched upto (written_by w.splits acts) (Err end) w v
      → Fails tx birth lines acts touched end w v
  between : end ≡ Stopped Memory → v ≡ w → Fails tx birth lines acts touched end w v

-- each line was done, by these acts; or the next step was not done
abbrev pub LinesTold : TxId → Birth → List Action → Result (List Done) TryEnd → Seen → Seen → Type 0
LinesTold tx birth lines (Ok acts) u v = (done : HasDone tx birth lines u v) × (next_of lines done.acts ≡ None) × (acts ≡ done.acts)
LinesTold tx birth lines (Err end) u v = (w : Seen) × (done : HasDone tx birth lines u w) × Fails tx birth lines done.acts done.touched end w v

-- ---- a try on its way

-- how far the transaction is, by what it may go back over
abbrev pub way_by : Going → List Done → Way
way_by g acts = record { done = length acts; written = map (λ w. w.1) g.written; saves = g.saves }

-- what was done of it, where it stands among its lines, and what it may go back over
pub record Doing (tx : TxId) (birth : Birth) (lines : List Action) (u v : Seen) (going : Option Going) (f : Following) (acts : List Done) : Type 0 where
  pub done : HasDone tx birth lines u v
  pub acts_are : acts ≡ done.acts
  pub over : Going
  pub going_is : going ≡ Some over
  pub written_is : over.written ≡ written_by u.splits done.acts
  pub place : StandsAt lines (answers_in done.acts) (way_by over done.acts) f

-- one step more was done, or was not
abbrev pub StepTold : {A : Type 0} → TxId → Birth → List Action → Result A TryEnd → Seen → Seen → Option Going → Following → List Done → Type 0
StepTold tx birth lines (Ok a) u v going f acts = Doing tx birth lines u v going f acts
StepTold tx birth lines (Err end) u v going f acts = LinesTold tx birth lines (Err end) u v

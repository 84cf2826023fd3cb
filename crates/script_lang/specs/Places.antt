-- Where a transaction stands among its lines.
use Rattle.std.specs.Prelude.{◌≡◌, ⊤, ℕ, true, List, [], ◌∷◌, ◌++◌, map, length, drop, Option, Some, None}
use Rattle.clv_base.specs.declared.ops.Op.{Op}
use Rattle.clv_base.specs.declared.ops.Op.TheVariants.{Get}
use Rattle.clv_base.specs.declared.ops.Answer.{Answer}
use Rattle.clv_base.specs.Maps.{Act, Operates, GoesBack}
use Rattle.clv_base.specs.Backs.{has_written}
use Rattle.script_lang.specs.Bodies.{Action}
use Rattle.script_lang.specs.Savepoints.{upto_of}
use Rattle.script_lang.specs.Grammar.{Do, Move, Save, Back}
use Rattle.script_lang.specs.Following.{Way, first_value, puts, one_done, ops_done, stands_after, acts_from, all_acts, next_act}
use Rattle.script_lang.specs.declared.following.Following.{Following}
use Rattle.script_lang.specs.declared.following.Stage.{Stage}
use Rattle.script_lang.specs.declared.following.Stage.TheVariants.{AtLine, Second, Puts, LastPut}
use Rattle.script_lang.specs.declared.following.Step.{Step}
use Rattle.script_lang.specs.declared.following.Step.TheVariants.{Operate, Keep, GoBack}

-- what is next: the operation of a move on its way, or what a line begins with
abbrev pub step_at_line : List Action → Option Step
step_at_line [] = None
step_at_line (Do op ∷ left) = Some (Operate op)
step_at_line (Move from to amount ∷ left) = Some (Operate (Get from))
step_at_line (Save ∷ left) = Some Keep
step_at_line (Back i ∷ left) = Some (GoBack i)

abbrev pub step_at : Stage → List Action → Option Step
step_at AtLine left = step_at_line left
step_at (Second from to amount found) left = Some (Operate (Get to))
step_at (Puts one two) left = Some (Operate one)
step_at (LastPut two) left = Some (Operate two)

abbrev pub step_of : Following → Option Step
step_of f = step_at f.stage f.left.now

-- the operations that are left of a line, given the answers that are to come
abbrev pub ops_left : Stage → List Answer → List Op
ops_left AtLine answers = []
ops_left (Second from to amount found) answers = Get to ∷ puts from to amount found (first_value answers)
ops_left (Puts one two) answers = one ∷ two ∷ []
ops_left (LastPut two) answers = two ∷ []

-- the acts that are left
abbrev pub after_ops : Way → List Op → List Action → List Answer → List Act
after_ops w ops left answers = map Operates ops ++ acts_from (ops_done ops answers w) left (drop (length ops) answers)

abbrev pub rest_from : Way → Stage → List Action → List Answer → List Act
rest_from w stage left answers = after_ops w (ops_left stage answers) left answers

abbrev pub rest_of : Way → Following → List Answer → List Act
rest_of w f answers = rest_from w f.stage f.left.now answers

-- the transaction of these lines was given these answers, and is so far: whatever is answered further, its acts are those that it did, and then those
-- that are left
abbrev pub StandsAt : List Action → List Answer → Way → Following → Type 0
StandsAt lines answers w f = (acts : List Act) × (length acts ≡ w.done) × ((more : List Answer) → all_acts lines (answers ++ more) ≡ acts ++ rest_of w f more)

-- with this answer it goes one operation further, if an operation is next
abbrev pub StepsTo : Stage → List Action → Answer → Stage → List Action → Type 0
StepsTo stage left answer next behind =
    (op : Op) → step_at stage left ≡ Some (Operate op) → (w : Way) (more : List Answer)
    → rest_from w stage left (answer ∷ more) ≡ Operates op ∷ rest_from (one_done (has_written op answer) w) next behind more

-- these operations are left of a line, whatever is answered
abbrev pub OpsLeft : List Op → Stage → Type 0
OpsLeft ops stage = (answers : List Answer) → ops_left stage answers ≡ ops

-- so its next step is the next act, if it is one
abbrev pub IsNext : List Action → List Answer → Way → Option Step → Type 0
IsNext lines answers w None = next_act lines answers w.done ≡ None
IsNext lines answers w (Some (Operate op)) = next_act lines answers w.done ≡ Some (Operates op)
IsNext lines answers w (Some Keep) = ⊤
IsNext lines answers w (Some (GoBack i)) =
    (upto : ℕ) → upto_of i w.saves.standing ≡ Some upto → stands_after upto w.written ≡ true → next_act lines answers w.done ≡ Some (GoesBack upto)

-- What a transaction does, given the answers that it was given so far.
use Rattle.std.specs.Prelude.{ℕ, suc, ◌+◌, ◌-◌, ◌^◌, Bool, false, ◌&&◌, nat_le, nat_lt, cond, List, [], ◌∷◌, ◌++◌, map, length, drop, slice_get, Option, Some, None}
use Rattle.std.specs.List.{filter, list_any}
use Rattle.clv_base.specs.declared.values.Value.{Value as ValueType}
use Rattle.clv_base.specs.declared.values.Value.TheVariants.{Num, Bytes}
use Rattle.clv_base.specs.declared.ops.Op.{Op}
use Rattle.clv_base.specs.declared.ops.Op.TheVariants.{Get, Put}
use Rattle.clv_base.specs.declared.ops.Answer.{Answer}
use Rattle.clv_base.specs.declared.ops.Answer.TheVariants.{Value, Pairs, Added}
use Rattle.clv_base.specs.Maps.{Act, Operates, GoesBack}
use Rattle.clv_base.specs.Backs.{has_written}
use Rattle.script_lang.specs.Bodies.{Action}
use Rattle.script_lang.specs.Savepoints.{Savepoints, no_savepoints, keep, upto_of, back_to}
use Rattle.script_lang.specs.Grammar.{Do, Move, Save, Back}

-- ---- the operations of a line

-- the value that was found; of a scan, or where there is no answer yet, none
abbrev pub value_of : Answer → Option ValueType
value_of (Value v) = v
value_of (Pairs ps) = None
value_of (Added found) = None

abbrev pub first_value : List Answer → Option ValueType
first_value [] = None
first_value (a ∷ answers) = value_of a

-- where both keys have numbers, there is enough and there is room, the amount goes from the one to the other
abbrev pub puts : ℕ → ℕ → ℕ → Option ValueType → Option ValueType → List Op
puts from to amount (Some (Num a)) (Some (Num b)) = cond (nat_le amount a && nat_lt (b + amount) (2 ^ 64)) (Put from (Num (a - amount)) ∷ Put to (Num (b + amount)) ∷ []) []
puts from to amount None b = []
puts from to amount (Some (Num a)) None = []
puts from to amount (Some (Num a)) (Some (Bytes bytes)) = []
puts from to amount (Some (Bytes bytes)) b = []

-- given the answers from its first on: a move looks at both keys first
abbrev pub action_ops : Action → List Answer → List Op
action_ops (Do op) answers = op ∷ []
action_ops (Move from to amount) answers = Get from ∷ Get to ∷ puts from to amount (first_value answers) (first_value (drop 1 answers))
action_ops Save answers = []
action_ops (Back i) answers = []

-- ---- a transaction on its way

-- how many acts it did, which of them wrote what still stands, the last one first, and its savepoints
pub record Way : Type 0 where
  pub done : ℕ
  pub written : List ℕ
  pub saves : Savepoints

abbrev pub at_start : Way
at_start = record { done = 0; written = []; saves = no_savepoints }

-- after an operation, which wrote or didn't
abbrev pub one_done : Bool → Way → Way
one_done wrote w = record { done = suc w.done; written = cond wrote (suc w.done ∷ w.written) w.written; saves = w.saves }

-- after operations, by their answers
abbrev pub has_written_by : Op → List Answer → Bool
has_written_by op [] = false
has_written_by op (a ∷ answers) = has_written op a

abbrev pub ops_done : List Op → List Answer → Way → Way
ops_done [] answers w = w
ops_done (op ∷ ops) answers w = ops_done ops (drop 1 answers) (one_done (has_written_by op answers) w)

-- after a savepoint, which leads to here
abbrev pub saved : Way → Way
saved w = record { done = w.done; written = w.written; saves = keep w.done w.saves }

-- whether what a later act wrote still stands
abbrev pub stands_after : ℕ → List ℕ → Bool
stands_after upto written = list_any (nat_lt upto) written

-- a going back is an act where it takes something away
abbrev pub back_acts : Option ℕ → Way → List Act
back_acts None w = []
back_acts (Some upto) w = cond (stands_after upto w.written) (GoesBack upto ∷ []) []

-- after it the later savepoints are forgotten, and what later acts wrote is gone
abbrev pub gone_back : ℕ → Option ℕ → Way → Way
gone_back i None w = w
gone_back i (Some upto) w =
    record { done = cond (stands_after upto w.written) (suc w.done) w.done; written = filter (λ n. nat_le n upto) w.written; saves = back_to i w.saves }

-- ---- its lines

-- what a line does, and how far the transaction is after it
abbrev pub line_acts : Action → List Answer → Way → List Act
line_acts (Do op) answers w = Operates op ∷ []
line_acts (Move from to amount) answers w = map Operates (action_ops (Move from to amount) answers)
line_acts Save answers w = []
line_acts (Back i) answers w = back_acts (upto_of i w.saves.standing) w

abbrev pub after_line : Action → List Answer → Way → Way
after_line (Do op) answers w = ops_done (op ∷ []) answers w
after_line (Move from to amount) answers w = ops_done (action_ops (Move from to amount) answers) answers w
after_line Save answers w = saved w
after_line (Back i) answers w = gone_back i (upto_of i w.saves.standing) w

-- what lines do, from here on
abbrev pub acts_from : Way → List Action → List Answer → List Act
acts_from w [] answers = []
acts_from w (line ∷ lines) answers = line_acts line answers w ++ acts_from (after_line line answers w) lines (drop (length (action_ops line answers)) answers)

-- what a transaction does, given its answers; the acts are numbered in order, from 1
abbrev pub all_acts : List Action → List Answer → List Act
all_acts lines answers = acts_from at_start lines answers

-- what it does next after so many acts, given its answers so far; none where each of its lines is done
abbrev pub next_act : List Action → List Answer → ℕ → Option Act
next_act lines answers done = slice_get (all_acts lines answers) done

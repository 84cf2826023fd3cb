-- What lines within their bounds ask for is within its bounds as long as what was answered before it is: a move puts what it found.
use Rattle.std.proofs.Common.{◌≡◌, refl, ap, subst, ◌∙◌, ℕ, suc, ◌+◌, ◌*◌, ◌-◌, ◌≤◌, ◌^◌, Bool, true, false, cond, not, ◌&&◌, ◌==◌, nat_le, nat_lt, List, [], ◌∷◌, ◌++◌, map, length, drop, Option, Some, None, arith}
use Rattle.std.specs.Prelude.{⊤}
use Rattle.std.specs.List.{list_all}
use Rattle.std.proofs.lemmas.Bool.{and_parts, and_from, ltb-true, lt-ltb}
use Rattle.clv_base.specs.declared.values.Value.{Value as ValueType}
use Rattle.clv_base.specs.declared.values.Value.TheVariants.{Num, Bytes}
use Rattle.clv_base.specs.declared.ops.Op.{Op}
use Rattle.clv_base.specs.declared.ops.Op.TheVariants.{Get, Put}
use Rattle.clv_base.specs.declared.ops.Answer.{Answer}
use Rattle.clv_base.specs.declared.ops.Answer.TheVariants.{Value, Pairs, Added}
use Rattle.clv_base.specs.Values.{fits_value}
use Rattle.clv_base.specs.Maps.{Act, Operates, GoesBack}
use Rattle.script_lang.specs.declared.actions.Action.{Action}
use Rattle.script_lang.specs.declared.actions.Action.TheVariants.{Do, Move, Save, Back}
use Rattle.script_lang.specs.Laws.{is_word, is_narrow_op, is_narrow}
use Rattle.script_lang.specs.Following.{Way, value_of, first_value, puts, action_ops, stands_after, back_acts, line_acts, after_line, acts_from, at_start, all_acts}
use Rattle.session_books.specs.Done.{Done, Did, WentBack}
use Rattle.script_runs.specs.Acts.{act_of, acts_of, answers_in}
use Rattle.report_reading.specs.Told.{fits_optional, fits_answer}

-- what was asked for, and what was answered
abbrev pub is_asked : Done → Bool
is_asked (Did op a) = is_narrow_op op
is_asked (WentBack upto) = true

abbrev pub is_given : Done → Bool
is_given (Did op a) = fits_answer a
is_given (WentBack upto) = true

-- each act was asked for within its bounds, where the answers before it are within theirs
abbrev pub AreAskedInTurn : List Done → Type 0
AreAskedInTurn [] = ⊤
AreAskedInTurn (d ∷ ds) = (is_asked d ≡ true) × (is_given d ≡ true → AreAskedInTurn ds)

-- ---- one act more

data IsFirst (act : Act) (acts : List Act) : List Done → Type 0 where
  first : (d : Done) (ds : List Done) → act_of d ≡ act → acts_of ds ≡ acts → IsFirst act acts (d ∷ ds)

first_act : (act : Act) (acts : List Act) (ds : List Done) → acts_of ds ≡ act ∷ acts → IsFirst act acts ds
first_act act acts [] e = absurd cc
first_act act acts (d ∷ ds) e = let one : act_of d ≡ act = cc in let more : acts_of ds ≡ acts = cc in first d ds one more

data IsDid (op : Op) : Done → Type 0 where
  did : (a : Answer) → IsDid op (Did op a)

same_op : (o p : Op) → Operates o ≡ Operates p → o ≡ p
same_op o p e = cc

as_did : (op : Op) (d : Done) → act_of d ≡ Operates op → IsDid op d
as_did op (Did o a) e = subst (λ p. IsDid p (Did o a)) (same_op o op e) (did a)
as_did op (WentBack upto) e = absurd cc

module _ (lines : List Action) (rest : (w : Way) (ds : List Done) → acts_of ds ≡ acts_from w lines (answers_in ds) → AreAskedInTurn ds) where
  -- an operation, and then more
  one_op : (op : Op) (acts : Way → List Done → List Act) → is_narrow_op op ≡ true → ((w : Way) (ds : List Done) → acts_of ds ≡ acts w ds → AreAskedInTurn ds) → (w : Way) (ds : List Done)
      → ((a : Answer) (more : List Done) → ds ≡ Did op a ∷ more → acts_of more ≡ acts w more) → (acts' : List Act) → acts_of ds ≡ Operates op ∷ acts' → AreAskedInTurn ds
  one_op op acts n then w ds same acts' e = at ds (first_act (Operates op) acts' ds e) same
    where
      by : (d : Done) (more : List Done) → IsDid op d → ((a : Answer) (us : List Done) → d ∷ more ≡ Did op a ∷ us → acts_of us ≡ acts w us) → AreAskedInTurn (d ∷ more)
      by _ more (did a) f = (n, λ given. then w more (f a more refl))

      at : (us : List Done) → IsFirst (Operates op) acts' us → ((a : Answer) (more : List Done) → us ≡ Did op a ∷ more → acts_of more ≡ acts w more) → AreAskedInTurn us
      at _ (first d more g h) f = by d more (as_did op d g) f

  -- operations, and then what the other lines ask for
  then_ops : (ops : List Op) → list_all is_narrow_op ops ≡ true → (w : Way) (ds : List Done) → acts_of ds ≡ map Operates ops ++ acts_from w lines (drop (length ops) (answers_in ds)) → AreAskedInTurn ds
  then_ops [] n w ds e = rest w ds e
  then_ops (op ∷ ops) n w ds e =
      let both = and_parts (is_narrow_op op) (list_all is_narrow_op ops) n in
      one_op op (λ v us. map Operates ops ++ acts_from v lines (drop (length ops) (answers_in us))) both.0 (λ v us f. then_ops ops both.1 v us f) w ds
      (λ a more is. behind a more (subst (λ us. acts_of us ≡ map Operates (op ∷ ops) ++ acts_from w lines (drop (suc (length ops)) (answers_in us))) is e))
      (map Operates ops ++ acts_from w lines (drop (suc (length ops)) (answers_in ds))) e
    where
      behind : (a : Answer) (more : List Done) → acts_of (Did op a ∷ more) ≡ map Operates (op ∷ ops) ++ acts_from w lines (drop (suc (length ops)) (answers_in (Did op a ∷ more)))
          → acts_of more ≡ map Operates ops ++ acts_from w lines (drop (length ops) (answers_in more))
      behind a more f = cc

  then_back : (o : Option ℕ) (w v : Way) (ds : List Done) → acts_of ds ≡ back_acts o w ++ acts_from v lines (answers_in ds) → AreAskedInTurn ds
  then_back None w v ds e = rest v ds e
  then_back (Some upto) w v ds e = by (stands_after upto w.written) e
    where
      back : (d : Done) (more : List Done) → act_of d ≡ GoesBack upto → acts_of more ≡ acts_from v lines (answers_in (d ∷ more)) → AreAskedInTurn (d ∷ more)
      back (Did o a) more g f = absurd cc
      back (WentBack u) more g f = (refl, λ given. rest v more f)

      at : (us : List Done) (acts : List Act) → IsFirst (GoesBack upto) acts us → acts ≡ acts_from v lines (answers_in us) → AreAskedInTurn us
      at _ acts (first d more g h) f = back d more g (h ∙ f)

      by : (b : Bool) → acts_of ds ≡ cond b (GoesBack upto ∷ []) [] ++ acts_from v lines (answers_in ds) → AreAskedInTurn ds
      by true f = at ds (acts_from v lines (answers_in ds)) (first_act (GoesBack upto) _ ds f) refl
      by false f = rest v ds f

-- ---- a move

less_fits : (a n : ℕ) → fits_value (Num a) ≡ true → fits_value (Num (a - n)) ≡ true
less_fits a n f = let l = ltb-true a (2 ^ 64) f in lt-ltb (a - n) (2 ^ 64) (omega arith)

puts_narrow : (from to amount : ℕ) (a b : Option ValueType) → is_word from ≡ true → is_word to ≡ true → fits_optional a ≡ true → list_all is_narrow_op (puts from to amount a b) ≡ true
puts_narrow from to amount (Some (Num a)) (Some (Num b)) f t fits = by (nat_le amount a && nat_lt (b + amount) (2 ^ 64)) refl
  where
    by : (c : Bool) → (nat_le amount a && nat_lt (b + amount) (2 ^ 64)) ≡ c → list_all is_narrow_op (cond c (Put from (Num (a - amount)) ∷ Put to (Num (b + amount)) ∷ []) []) ≡ true
    by true e = and_from _ _ (and_from (is_word from) _ f (less_fits a amount fits)) (and_from _ _ (and_from (is_word to) _ t (and_parts (nat_le amount a) (nat_lt (b + amount) (2 ^ 64)) e).1) refl)
    by false e = refl
puts_narrow from to amount None b f t fits = refl
puts_narrow from to amount (Some (Num a)) None f t fits = refl
puts_narrow from to amount (Some (Num a)) (Some (Bytes bytes)) f t fits = refl
puts_narrow from to amount (Some (Bytes bytes)) b f t fits = refl

value_fits : (a : Answer) → fits_answer a ≡ true → fits_optional (value_of a) ≡ true
value_fits (Value v) e = e
value_fits (Pairs ps) e = refl
value_fits (Added found) e = refl

module _ (lines : List Action) (rest : (w : Way) (ds : List Done) → acts_of ds ≡ acts_from w lines (answers_in ds) → AreAskedInTurn ds) (from to amount : ℕ) (f : is_word from ≡ true) (t : is_word to ≡ true) where
  moves : (w : Way) (ds : List Done) → acts_of ds ≡ acts_from w (Move from to amount ∷ lines) (answers_in ds) → AreAskedInTurn ds
  moves w ds e = at ds (first_act (Operates (Get from)) _ ds e) e
    where
      Left : Answer → Answer → List Done → Type 0
      Left a b more =
          acts_of more ≡ map Operates (puts from to amount (value_of a) (value_of b)) ++ acts_from (after_line (Move from to amount) (a ∷ b ∷ answers_in more) w) lines (drop (length (puts from to amount (value_of a) (value_of b))) (answers_in more))

      third : (a b : Answer) (more : List Done) → Left a b more → fits_answer a ≡ true → AreAskedInTurn more
      third a b more g fits = then_ops lines rest (puts from to amount (value_of a) (value_of b)) (puts_narrow from to amount (value_of a) (value_of b) f t (value_fits a fits)) (after_line (Move from to amount) (a ∷ b ∷ answers_in more) w) more g

      second : (a : Answer) (us : List Done) → acts_of (Did (Get from) a ∷ us) ≡ acts_from w (Move from to amount ∷ lines) (answers_in (Did (Get from) a ∷ us)) → fits_answer a ≡ true → AreAskedInTurn us
      second a [] g fits = absurd cc
      second a (WentBack u ∷ more) g fits = absurd cc
      second a (Did o b ∷ more) g fits = with_did (as_did (Get to) (Did o b) cc) g
        where
          with_did : {d : Done} → IsDid (Get to) d → acts_of (Did (Get from) a ∷ d ∷ more) ≡ acts_from w (Move from to amount ∷ lines) (answers_in (Did (Get from) a ∷ d ∷ more)) → AreAskedInTurn (d ∷ more)
          with_did (did c) h = let left : Left a c more = cc in (t, λ given. third a c more left fits)

      by : (d : Done) (more : List Done) → IsDid (Get from) d → acts_of (d ∷ more) ≡ acts_from w (Move from to amount ∷ lines) (answers_in (d ∷ more)) → AreAskedInTurn (d ∷ more)
      by _ more (did a) g = (f, λ given. second a more g given)

      at : {acts : List Act} (us : List Done) → IsFirst (Operates (Get from)) acts us → acts_of us ≡ acts_from w (Move from to amount ∷ lines) (answers_in us) → AreAskedInTurn us
      at _ (first d more g h) k = by d more (as_did (Get from) d g) k

-- ---- all lines

pub lines_ask : (lines : List Action) → list_all is_narrow lines ≡ true → (w : Way) (ds : List Done) → acts_of ds ≡ acts_from w lines (answers_in ds) → AreAskedInTurn ds
lines_ask [] n w [] e = tt
lines_ask [] n w (d ∷ ds) e = absurd cc
lines_ask (line ∷ lines) n w ds e = at line (and_parts (is_narrow line) (list_all is_narrow lines) n).0 (lines_ask lines (and_parts (is_narrow line) (list_all is_narrow lines) n).1) e
  where
    at : (l : Action) → is_narrow l ≡ true → ((v : Way) (us : List Done) → acts_of us ≡ acts_from v lines (answers_in us) → AreAskedInTurn us) → acts_of ds ≡ acts_from w (l ∷ lines) (answers_in ds) → AreAskedInTurn ds
    at (Do op) m rest f = then_ops lines rest (op ∷ []) (and_from _ _ m refl) (after_line (Do op) (answers_in ds) w) ds f
    at (Move from to amount) m rest f =
        let keys = and_parts (is_word from) (is_word to) (and_parts (is_word from && is_word to) (is_word amount && not (from == to)) m).0 in
        moves lines rest from to amount keys.0 keys.1 w ds f
    at Save m rest f = rest (after_line Save (answers_in ds) w) ds f
    at (Back i) m rest f = then_back lines rest _ w (after_line (Back i) (answers_in ds) w) ds f

-- ---- how much they ask for

few_puts : (from to amount : ℕ) (a b : Option ValueType) → length (puts from to amount a b) ≤ 2
few_puts from to amount (Some (Num a)) (Some (Num b)) = by (nat_le amount a && nat_lt (b + amount) (2 ^ 64))
  where
    by : (c : Bool) → length (cond c (Put from (Num (a - amount)) ∷ Put to (Num (b + amount)) ∷ []) []) ≤ 2
    by true = omega arith
    by false = omega arith
few_puts from to amount None b = omega arith
few_puts from to amount (Some (Num a)) None = omega arith
few_puts from to amount (Some (Num a)) (Some (Bytes bytes)) = omega arith
few_puts from to amount (Some (Bytes bytes)) b = omega arith

few_backs : (o : Option ℕ) (w : Way) → length (back_acts o w) ≤ 4
few_backs None w = omega arith
few_backs (Some upto) w = by (stands_after upto w.written)
  where
    by : (c : Bool) → length (cond c (GoesBack upto ∷ []) []) ≤ 4
    by true = omega arith
    by false = omega arith

operated : (ops : List Op) → length (map Operates ops) ≡ length ops
operated [] = refl
operated (op ∷ ops) = ap suc (operated ops)

few_acts : (line : Action) (answers : List Answer) (w : Way) → length (line_acts line answers w) ≤ 4
few_acts (Do op) answers w = omega arith
few_acts (Move from to amount) answers w =
    let ps = puts from to amount (first_value answers) (first_value (drop 1 answers)) in
    let l : length (map Operates ps) ≡ length ps = operated ps in
    let k : length ps ≤ 2 = few_puts from to amount (first_value answers) (first_value (drop 1 answers)) in
    omega arith
few_acts Save answers w = omega arith
few_acts (Back i) answers w = few_backs _ w

long : {A : Type 0} (xs ys : List A) → length (xs ++ ys) ≡ length xs + length ys
long [] ys = omega arith
long (x ∷ xs) ys = let l = long xs ys in omega arith

from_here : (lines : List Action) (w : Way) (answers : List Answer) → length (acts_from w lines answers) ≤ 4 * length lines
from_here [] w answers = omega arith
from_here (line ∷ lines) w answers =
    let rest = acts_from (after_line line answers w) lines (drop (length (action_ops line answers)) answers) in
    let l = long (line_acts line answers w) rest in
    let k = few_acts line answers w in
    let m = from_here lines (after_line line answers w) (drop (length (action_ops line answers)) answers) in
    omega arith

as_many : (ds : List Done) → length (acts_of ds) ≡ length ds
as_many [] = refl
as_many (d ∷ ds) = ap suc (as_many ds)

pub lines_ask_little : (lines : List Action) (ds : List Done) → acts_of ds ≡ all_acts lines (answers_in ds) → length ds ≤ 4 * length lines
lines_ask_little lines ds e = let l = as_many ds in let k = ap length e in let m = from_here lines at_start (answers_in ds) in omega arith

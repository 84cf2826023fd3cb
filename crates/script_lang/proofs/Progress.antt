-- How a transaction goes from step to step.
use Rattle.std.proofs.Common.{◌≡◌, refl, ap, ap₂, ◌∙◌, sym, ℕ, suc, ◌+◌, Bool, true, false, cond, List, [], ◌∷◌, ◌++◌, map, take, drop, length, slice_get, Option, Some, None, arith, append_assoc, append-nil, length-append}
use Rattle.std.proofs.lemmas.List.{take_at}
use Rattle.clv_base.specs.declared.ops.Op.{Op}
use Rattle.clv_base.specs.declared.ops.Op.TheVariants.{Get}
use Rattle.clv_base.specs.declared.ops.Answer.{Answer}
use Rattle.clv_base.specs.Maps.{Act, Operates, GoesBack}
use Rattle.clv_base.specs.Backs.{has_written}
use Rattle.script_lang.specs.Bodies.{Action}
use Rattle.script_lang.specs.Savepoints.{upto_of}
use Rattle.script_lang.specs.Grammar.{Do, Move, Save, Back}
use Rattle.script_lang.specs.Following.{Way, first_value, puts, one_done, has_written_by, ops_done, saved, gone_back, back_acts, stands_after, acts_from, all_acts, next_act}
use Rattle.script_lang.specs.Places.{StandsAt, StepsTo, IsNext, step_at, step_of, rest_from, rest_of}
use Rattle.script_lang.specs.declared.following.Following.{Following}
use Rattle.script_lang.specs.declared.following.Stage.{Stage}
use Rattle.script_lang.specs.declared.following.Stage.TheVariants.{AtLine, Second, Puts, LastPut}
use Rattle.script_lang.specs.declared.following.Step.{Step}
use Rattle.script_lang.specs.declared.following.Step.TheVariants.{Operate, Keep, GoBack}

-- ---- where the transaction stands

all_now : (lines : List Action) (answers : List Answer) (w : Way) (f : Following) (acts : List Act) → ((more : List Answer) → all_acts lines (answers ++ more) ≡ acts ++ rest_of w f more) → all_acts lines answers ≡ acts ++ rest_of w f []
all_now lines answers w f acts h = ap (all_acts lines) (sym (append-nil answers)) ∙ h []

get_behind : (done acts : List Act) → slice_get (done ++ acts) (length done) ≡ slice_get acts 0
get_behind [] acts = refl
get_behind (o ∷ done) acts = get_behind done acts

next_of : (lines : List Action) (answers : List Answer) (w : Way) (f : Following) → StandsAt lines answers w f → next_act lines answers w.done ≡ slice_get (rest_of w f []) 0
next_of lines answers w f (acts, long, h) =
    ap (λ (all : List Act). slice_get all w.done) (all_now lines answers w f acts h) ∙ ap (slice_get (acts ++ rest_of w f [])) (sym long) ∙ get_behind acts (rest_of w f [])

-- what the first of the acts that are left is
abbrev FirstIs : Way → List Act → Option Step → Type 0
FirstIs w acts None = slice_get acts 0 ≡ None
FirstIs w acts (Some (Operate op)) = slice_get acts 0 ≡ Some (Operates op)
FirstIs w acts (Some Keep) = Unit {0}
FirstIs w acts (Some (GoBack i)) = (upto : ℕ) → upto_of i w.saves.standing ≡ Some upto → stands_after upto w.written ≡ true → slice_get acts 0 ≡ Some (GoesBack upto)

first_back : (o : Option ℕ) (w : Way) (rest : List Act) (upto : ℕ) → o ≡ Some upto → stands_after upto w.written ≡ true → slice_get (back_acts o w ++ rest) 0 ≡ Some (GoesBack upto)
first_back o w rest upto is stands = ap (λ (p : Option ℕ). slice_get (back_acts p w ++ rest) 0) is ∙ ap (λ b. slice_get (cond b (GoesBack upto ∷ []) [] ++ rest) 0) stands

first_is : (w : Way) (stage : Stage) (left : List Action) → FirstIs w (rest_from w stage left []) (step_at stage left)
first_is w AtLine [] = refl
first_is w AtLine (Do op ∷ left) = refl
first_is w AtLine (Move from to amount ∷ left) = refl
first_is w AtLine (Save ∷ left) = tt
first_is w AtLine (Back i ∷ left) = λ upto is stands. first_back (upto_of i w.saves.standing) w (acts_from (gone_back i (upto_of i w.saves.standing) w) left []) upto is stands
first_is w (Second from to amount found) left = refl
first_is w (Puts one two) left = refl
first_is w (LastPut two) left = refl

pub is_next : (lines : List Action) (answers : List Answer) (w : Way) (f : Following) → StandsAt lines answers w f → IsNext lines answers w (step_of f)
is_next lines answers w f stands = at (step_of f) (first_is w f.stage f.left.now)
  where
    next : next_act lines answers w.done ≡ slice_get (rest_of w f []) 0
    next = next_of lines answers w f stands

    at : (s : Option Step) → FirstIs w (rest_of w f []) s → IsNext lines answers w s
    at None h = next ∙ h
    at (Some (Operate op)) h = next ∙ h
    at (Some Keep) h = tt
    at (Some (GoBack i)) h = λ upto is t. next ∙ h upto is t

pub stands_further : (lines : List Action) (answers : List Answer) (w : Way) (f g : Following) (op : Op) (answer : Answer) → StandsAt lines answers w f → step_of f ≡ Some (Operate op)
    → StepsTo f.stage f.left.now answer g.stage g.left.now → StandsAt lines (answers ++ answer ∷ []) (one_done (has_written op answer) w) g
stands_further lines answers w f g op answer (acts, long, h) is step = (
  acts ++ Operates op ∷ [],
  omega (arith, length-append acts (Operates op ∷ [])),
  λ more.
      ap (all_acts lines) (append_assoc answers (answer ∷ []) more) ∙ h (answer ∷ more) ∙ ap (λ (as_ : List Act). acts ++ as_) (step op is w more)
      ∙ sym (append_assoc acts (Operates op ∷ []) (rest_of (one_done (has_written op answer) w) g more)),
)

-- an operation that is next is the first act that is left, whatever is answered
first_op : (w : Way) (stage : Stage) (left : List Action) (op : Op) (more : List Answer) → step_at stage left ≡ Some (Operate op) → (behind : List Act) × (rest_from w stage left more ≡ Operates op ∷ behind)
first_op w AtLine [] op more e = absurd cc
first_op w AtLine (Do o ∷ left) op more e = let same : o ≡ op = cc in (_, ap (λ (x : Op). Operates x ∷ acts_from (one_done (has_written_by o more) w) left (drop 1 more)) same)
first_op w AtLine (Move from to amount ∷ left) op more e =
    let same : Get from ≡ op = cc in
    let ops = Get to ∷ puts from to amount (first_value more) (first_value (drop 1 more)) in
    (_, ap (λ (x : Op). Operates x ∷ map Operates ops ++ acts_from (ops_done (Get from ∷ ops) more w) left (drop (length (Get from ∷ ops)) more)) same)
first_op w AtLine (Save ∷ left) op more e = absurd cc
first_op w AtLine (Back i ∷ left) op more e = absurd cc
first_op w (Second from to amount found) left op more e =
    let same : Get to ≡ op = cc in
    let ops = puts from to amount found (first_value more) in
    (_, ap (λ (x : Op). Operates x ∷ map Operates ops ++ acts_from (ops_done (Get to ∷ ops) more w) left (drop (length (Get to ∷ ops)) more)) same)
first_op w (Puts one two) left op more e =
    let same : one ≡ op = cc in (_, ap (λ (x : Op). Operates x ∷ Operates two ∷ acts_from (ops_done (one ∷ two ∷ []) more w) left (drop 2 more)) same)
first_op w (LastPut two) left op more e = let same : two ≡ op = cc in (_, ap (λ (x : Op). Operates x ∷ acts_from (ops_done (two ∷ []) more w) left (drop 1 more)) same)

-- so with its answer the acts that are done are those before, and it
pub acts_go_on : (lines : List Action) (answers : List Answer) (w : Way) (f : Following) (op : Op) (answer : Answer) → StandsAt lines answers w f → step_of f ≡ Some (Operate op)
    → take (suc w.done) (all_acts lines (answers ++ answer ∷ [])) ≡ take w.done (all_acts lines answers) ++ Operates op ∷ []
acts_go_on lines answers w f op answer (acts, long, h) is =
    let first = first_op w f.stage f.left.now op (answer ∷ []) is in
    let before : take w.done (all_acts lines answers) ≡ acts = ap (take w.done) (all_now lines answers w f acts h) ∙ take_at acts (rest_of w f []) w.done long in
    let longer : length (acts ++ Operates op ∷ []) ≡ suc w.done = omega (arith, length-append acts (Operates op ∷ [])) in
    ap (take (suc w.done)) (h (answer ∷ []) ∙ ap (λ (as_ : List Act). acts ++ as_) first.1 ∙ sym (append_assoc acts (Operates op ∷ []) first.0))
    ∙ take_at (acts ++ Operates op ∷ []) first.0 (suc w.done) longer ∙ ap (λ (as_ : List Act). as_ ++ Operates op ∷ []) (sym before)

-- ---- past a savepoint, and a going back

-- what is left of the lines behind one that begins no operation
passes : (lines : List Action) (answers : List Answer) (w v : Way) (f g : Following) → StandsAt lines answers w f → (here : List Act) → v.done ≡ w.done + length here
    → ((more : List Answer) → rest_of w f more ≡ here ++ rest_of v g more) → StandsAt lines answers v g
passes lines answers w v f g (acts, long, h) here done e =
    (acts ++ here, omega (arith, length-append acts here), λ more. h more ∙ ap (λ (as_ : List Act). acts ++ as_) (e more) ∙ sym (append_assoc acts here (rest_of v g more)))

-- the line that is next, by its step
keeps_by : (stage : Stage) (left : List Action) → step_at stage left ≡ Some Keep → (behind : List Action) × (stage ≡ AtLine) × (left ≡ Save ∷ behind)
keeps_by AtLine [] e = absurd cc
keeps_by AtLine (Do op ∷ left) e = absurd cc
keeps_by AtLine (Move from to amount ∷ left) e = absurd cc
keeps_by AtLine (Save ∷ left) e = (left, refl, refl)
keeps_by AtLine (Back i ∷ left) e = absurd cc
keeps_by (Second from to amount found) left e = absurd cc
keeps_by (Puts one two) left e = absurd cc
keeps_by (LastPut two) left e = absurd cc

goes_back_by : (stage : Stage) (left : List Action) (i : ℕ) → step_at stage left ≡ Some (GoBack i) → (behind : List Action) × (stage ≡ AtLine) × (left ≡ Back i ∷ behind)
goes_back_by AtLine [] i e = absurd cc
goes_back_by AtLine (Do op ∷ left) i e = absurd cc
goes_back_by AtLine (Move from to amount ∷ left) i e = absurd cc
goes_back_by AtLine (Save ∷ left) i e = absurd cc
goes_back_by AtLine (Back j ∷ left) i e = let same : j ≡ i = cc in (left, refl, ap (λ n. Back n ∷ left) same)
goes_back_by (Second from to amount found) left i e = absurd cc
goes_back_by (Puts one two) left i e = absurd cc
goes_back_by (LastPut two) left i e = absurd cc

back_long : (o : Option ℕ) (i : ℕ) (w : Way) → (gone_back i o w).done ≡ w.done + length (back_acts o w)
back_long None i w = omega arith
back_long (Some upto) i w = at (stands_after upto w.written)
  where
    at : (b : Bool) → cond b (suc w.done) w.done ≡ w.done + length (cond b (GoesBack upto ∷ []) [])
    at true = omega arith
    at false = omega arith

-- the rest of the lines, where the first one is passed
rest_as : (w : Way) (stage : Stage) (left : List Action) (line : Action) (behind : List Action) (more : List Answer) → stage ≡ AtLine → left ≡ line ∷ behind → rest_from w stage left more ≡ acts_from w (line ∷ behind) more
rest_as w stage left line behind more s l = ap₂ (λ (t : Stage) (ls : List Action). rest_from w t ls more) s l

module _ (lines : List Action) (answers : List Answer) (w : Way) (f g : Following) (line : Action) (behind : List Action) (stands : StandsAt lines answers w f) (left_is : f.left.now ≡ line ∷ behind) (next_is : g.left.now ≡ behind) (stage_is : g.stage ≡ f.stage) where
  same_behind : (other : Action) (rest : List Action) → f.left.now ≡ other ∷ rest → rest ≡ behind
  same_behind other rest is = let e : other ∷ rest ≡ line ∷ behind = sym is ∙ left_is in cc

  rest_now : (v : Way) (rest : List Action) (other : Action) → f.left.now ≡ other ∷ rest → f.stage ≡ AtLine → (more : List Answer) → rest_of v g more ≡ acts_from v rest more
  rest_now v rest other is at more = ap₂ (λ (t : Stage) (ls : List Action). rest_from v t ls more) (stage_is ∙ at) (next_is ∙ sym (same_behind other rest is))

  pub passes_save : step_of f ≡ Some Keep → StandsAt lines answers (saved w) g
  passes_save e =
      let k = keeps_by f.stage f.left.now e in
      passes lines answers w (saved w) f g stands [] (omega arith)
      (λ more. rest_as w f.stage f.left.now Save k.0 more k.1 k.2 ∙ sym (rest_now (saved w) k.0 Save k.2 k.1 more))

  pub passes_back : (i : ℕ) → step_of f ≡ Some (GoBack i) → StandsAt lines answers (gone_back i (upto_of i w.saves.standing) w) g
  passes_back i e =
      let k = goes_back_by f.stage f.left.now i e in
      let o = upto_of i w.saves.standing in
      passes lines answers w (gone_back i o w) f g stands (back_acts o w) (back_long o i w)
      (λ more. rest_as w f.stage f.left.now (Back i) k.0 more k.1 k.2 ∙ ap (λ (as_ : List Act). back_acts o w ++ as_) (sym (rest_now (gone_back i o w) k.0 (Back i) k.2 k.1 more)))

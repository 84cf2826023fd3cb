-- What a session's calls add, one after another; and what each operation of lines keeps to.
use Rattle.std.proofs.Common.{◌≡◌, refl, sym, ap, subst, ◌∙◌, ◌⊎◌, inl, inr, ℕ, zero, suc, ◌+◌, ◌-◌, ◌≤◌, Bool, true, false, ◌||◌, ◌&&◌, ◌==◌, nat_le, cond, List, [], ◌∷◌, ◌++◌, map, drop, length, slice_get, append_assoc, append-nil, Option, Some, None, arith}
use Rattle.std.specs.List.{list_all}
use Rattle.std.proofs.lemmas.Bool.{and_parts}
use Rattle.std.proofs.lemmas.List.Folds.{list_any-append}
use Rattle.clv_base.specs.declared.values.Value.{Value as ValueType}
use Rattle.clv_base.specs.declared.values.Value.TheVariants.{Num, Bytes}
use Rattle.clv_base.specs.declared.ops.Op.{Op}
use Rattle.clv_base.specs.declared.ops.Op.TheVariants.{Get, Put, Del, Scan, Add}
use Rattle.clv_base.specs.declared.ops.Answer.{Answer}
use Rattle.clv_base.specs.Maps.{Act, Operates, GoesBack}
use Rattle.clv_base.specs.Journals.{History}
use Rattle.clv_base.proofs.SameNames.{or_left, or_right}
use Rattle.script_lang.specs.declared.actions.Action.{Action}
use Rattle.script_lang.specs.declared.actions.Action.TheVariants.{Do, Move, Save, Back}
use Rattle.script_lang.specs.Savepoints.{upto_of}
use Rattle.script_lang.specs.Following.{puts, first_value, action_ops, Way, at_start, back_acts, stands_after, line_acts, after_line, acts_from, all_acts}
use Rattle.script_lang.specs.Laws.{is_narrow, is_narrow_op}
use Rattle.session_books.specs.Done.{Done}
use Rattle.script_runs.specs.Acts.{is_touched, answers_in, next_of}
use Rattle.script_runs.specs.Seen.{Seen, AreStamped, GrowsFrom, GrowsIn, Grows}
use Rattle.script_runs.specs.Told.{has_range, TouchesBy, TouchesJust}

-- ---- growing

pub stamped_on : (a b : History) (k l m : ℕ) → k ≤ l → l ≤ m → AreStamped k l a → AreStamped l m b → AreStamped k m (a ++ b)
stamped_on [] [] k l m up more first later = tt
stamped_on [] (e ∷ es) k l m up more first later = ((let x = later.0.0 in omega arith, later.0.1), stamped_on [] es k l m up more tt later.1)
stamped_on (e ∷ es) b k l m up more first later = ((first.0.0, (let x = first.0.1 in omega arith)), stamped_on es b k l m up more first.1 later)

pub grows_over : (base n m : ℕ) (a b : History) (u v w : Seen) → GrowsFrom base n a u v → GrowsIn m b v w → GrowsFrom base (n + m) (a ++ b) u w
grows_over base n m a b u v w g h =
    record {
      splits_are = h.splits_are ∙ g.splits_are;
      run_is = h.run_is ∙ g.run_is;
      walker_is = h.walker_is ∙ g.walker_is;
      entries_are = h.entries_are ∙ ap (λ es. es ++ b) g.entries_are ∙ append_assoc u.entries a b;
      clock_rises = let x = g.clock_rises in let y = h.clock_rises in omega arith;
      serial_is = let x = g.serial_is in let y = h.serial_is in omega arith;
      latest_rises = let x = g.latest_rises in let y = h.latest_rises in omega arith;
      dated = let x = g.dated in let y = h.dated in let l = h.latest_rises in omega arith;
      stamped = stamped_on a b u.clock v.clock w.clock g.clock_rises h.clock_rises g.stamped h.stamped;
    }

pub grows_on : (a b : History) (u v w : Seen) → Grows a u v → Grows b v w → Grows (a ++ b) u w
grows_on a b u v w g h = grows_over u.clock 0 0 a b u v w g h

pub grows_none : (u : Seen) → Grows [] u u
grows_none u = record {
  splits_are = refl;
  run_is = refl;
  walker_is = refl;
  entries_are = sym (append-nil u.entries);
  clock_rises = omega arith;
  serial_is = omega arith;
  latest_rises = omega arith;
  dated = omega arith;
  stamped = tt;
}

-- with another number, and other entries, that are the same
pub grows_as : (base n m : ℕ) (es fs : History) (u v : Seen) → n ≡ m → es ≡ fs → GrowsFrom base n es u v → GrowsFrom base m fs u v
grows_as base n m es fs u v is same g = subst (λ k. GrowsFrom base k fs u v) is (subst (λ l. GrowsFrom base n l u v) same g)

-- ---- shards

pub touches_on : (touched after : ℕ → Bool) (es here : History) → ((n : ℕ) → touched n ≡ true → is_touched es n ≡ true) → TouchesBy touched here after → (n : ℕ) → after n ≡ true → is_touched (es ++ here) n ≡ true
touches_on touched after es here only by n h =
    list_any-append (λ e. e.0 == n) es here ∙ at (by n h)
  where
    at : (touched n ≡ true) ⊎ (is_touched here n ≡ true) → (is_touched es n || is_touched here n) ≡ true
    at (inl t) = or_left (is_touched es n) (is_touched here n) (only n t)
    at (inr t) = or_right (is_touched es n) (is_touched here n) t

pub either : (a b : Bool) → (a || b) ≡ true → (a ≡ true) ⊎ (b ≡ true)
either true b h = inl refl
either false b h = inr h

pub touches_all : (touched after : ℕ → Bool) (es here : History) → ((n : ℕ) → is_touched es n ≡ true → touched n ≡ true) → TouchesJust touched here after → (n : ℕ) → is_touched (es ++ here) n ≡ true → after n ≡ true
touches_all touched after es here all by n h = at (either (is_touched es n) (is_touched here n) (sym (list_any-append (λ e. e.0 == n) es here) ∙ h))
  where
    at : (is_touched es n ≡ true) ⊎ (is_touched here n ≡ true) → after n ≡ true
    at (inl t) = by.stay n (all n t)
    at (inr t) = by.new n t

-- ---- what each operation of narrow lines passes

module _ (test : Op → Bool) (narrow_pass : (op : Op) → is_narrow_op op ≡ true → test op ≡ true) (get_passes : (k : ℕ) → test (Get k) ≡ true) (put_passes : (k : ℕ) (v : ValueType) → test (Put k v) ≡ true) where
  one_passes : (op : Op) (ops : List Op) → test op ≡ true → list_all test ops ≡ true → list_all test (op ∷ ops) ≡ true
  one_passes op ops h k = ap (λ b. b && list_all test ops) h ∙ k

  puts_pass : (from to amount : ℕ) (source target : Option ValueType) → list_all test (puts from to amount source target) ≡ true
  puts_pass from to amount (Some (Num a)) (Some (Num b)) = at _
    where
      at : (c : Bool) → list_all test (cond c (Put from (Num (a - amount)) ∷ Put to (Num (b + amount)) ∷ []) []) ≡ true
      at true = one_passes (Put from (Num (a - amount))) (Put to (Num (b + amount)) ∷ []) (put_passes from (Num (a - amount))) (one_passes (Put to (Num (b + amount))) [] (put_passes to (Num (b + amount))) refl)
      at false = refl
  puts_pass from to amount None b = refl
  puts_pass from to amount (Some (Num a)) None = refl
  puts_pass from to amount (Some (Num a)) (Some (Bytes bytes)) = refl
  puts_pass from to amount (Some (Bytes bytes)) b = refl

  abbrev pub act_test : Act → Bool
  act_test (Operates op) = test op
  act_test (GoesBack upto) = true

  as_acts : (ops : List Op) → list_all test ops ≡ true → list_all act_test (map Operates ops) ≡ true
  as_acts [] h = refl
  as_acts (op ∷ ops) h = let p = and_parts (test op) (list_all test ops) h in ap (λ b. b && list_all act_test (map Operates ops)) p.0 ∙ as_acts ops p.1

  back_passes : (o : Option ℕ) (w : Way) → list_all act_test (back_acts o w) ≡ true
  back_passes None w = refl
  back_passes (Some upto) w = at (stands_after upto w.written)
    where
      at : (b : Bool) → list_all act_test (cond b (GoesBack upto ∷ []) []) ≡ true
      at true = refl
      at false = refl

  line_passes : (line : Action) (answers : List Answer) (w : Way) → is_narrow line ≡ true → list_all act_test (line_acts line answers w) ≡ true
  line_passes (Do op) answers w h = as_acts (op ∷ []) (one_passes op [] (narrow_pass op h) refl)
  line_passes (Move from to amount) answers w h =
      let more = puts from to amount (first_value answers) (first_value (drop 1 answers)) in
      as_acts (Get from ∷ Get to ∷ more)
      (one_passes (Get from) (Get to ∷ more) (get_passes from) (one_passes (Get to) more (get_passes to) (puts_pass from to amount (first_value answers) (first_value (drop 1 answers)))))
  line_passes Save answers w h = refl
  line_passes (Back i) answers w h = back_passes (upto_of i w.saves.standing) w

  acts_pass : (xs ys : List Act) → list_all act_test xs ≡ true → list_all act_test ys ≡ true → list_all act_test (xs ++ ys) ≡ true
  acts_pass [] ys h k = k
  acts_pass (x ∷ xs) ys h k = let p = and_parts (act_test x) (list_all act_test xs) h in ap (λ b. b && list_all act_test (xs ++ ys)) p.0 ∙ acts_pass xs ys p.1 k

  lines_from_pass : (w : Way) (lines : List Action) (answers : List Answer) → list_all is_narrow lines ≡ true → list_all act_test (acts_from w lines answers) ≡ true
  lines_from_pass w [] answers h = refl
  lines_from_pass w (line ∷ lines) answers h =
      let p = and_parts (is_narrow line) (list_all is_narrow lines) h in
      let behind = drop (length (action_ops line answers)) answers in
      acts_pass (line_acts line answers w) (acts_from (after_line line answers w) lines behind) (line_passes line answers w p.0) (lines_from_pass (after_line line answers w) lines behind p.1)

  pub lines_pass : (lines : List Action) (answers : List Answer) → list_all is_narrow lines ≡ true → list_all act_test (all_acts lines answers) ≡ true
  lines_pass lines answers h = lines_from_pass at_start lines answers h

-- ---- ranges

range_narrow : (op : Op) → is_narrow_op op ≡ true → has_range op ≡ true
range_narrow (Get k) h = refl
range_narrow (Put k v) h = refl
range_narrow (Del k) h = refl
range_narrow (Scan lo hi) h = (and_parts (nat_le lo hi) _ h).0
range_narrow (Add k by) h = refl

abbrev ranges : Act → Bool
ranges a = act_test has_range range_narrow (λ k. refl) (λ k v. refl) a

operates_range : (a : Act) (op : Op) → a ≡ Operates op → ranges a ≡ true → has_range op ≡ true
operates_range a op e h = subst (λ x. ranges x ≡ true) e h

get_have : (acts : List Act) (n : ℕ) (op : Op) → list_all ranges acts ≡ true → slice_get acts n ≡ Some (Operates op) → has_range op ≡ true
get_have [] n op h k = absurd cc
get_have (o ∷ acts) zero op h k = operates_range o op (let same : o ≡ Operates op = cc in same) (and_parts (ranges o) (list_all ranges acts) h).0
get_have (o ∷ acts) (suc n) op h k = get_have acts n op (and_parts (ranges o) (list_all ranges acts) h).1 k

pub next_has_range : (lines : List Action) (ds : List Done) (op : Op) → list_all is_narrow lines ≡ true → next_of lines ds ≡ Some (Operates op) → has_range op ≡ true
next_has_range lines ds op h k = get_have (all_acts lines (answers_in ds)) (length ds) op (lines_pass has_range range_narrow (λ k. refl) (λ k v. refl) lines (answers_in ds) h) k

-- An operation passes others with which it doesn't clash: it is answered so before them and behind them.
use Rattle.std.proofs.Common.{◌≡◌, refl, sym, ap, subst, ◌∙◌, ℕ, true, false, cond, Bool, not, ◌&&◌, ◌||◌, List, [], ◌∷◌, Option, Some, None, ◌==◌, arith, cond}
use Rattle.std.specs.List.{AllByRecursion}
use Rattle.std.proofs.lemmas.Bool.{both_ways, or_parts}
use Rattle.clv_base.specs.declared.values.Value.{Value as ValueType}
use Rattle.clv_base.specs.declared.values.Value.TheVariants.{Num, Bytes}
use Rattle.clv_base.specs.declared.ops.Op.{Op}
use Rattle.clv_base.specs.declared.ops.Op.TheVariants.{Get, Put, Del, Scan, Add}
use Rattle.clv_base.specs.declared.ops.Answer.{Answer}
use Rattle.clv_base.specs.declared.ops.Answer.TheVariants.{Value, Added}
use Rattle.clv_base.specs.Maps.{KeyMap, map_get, map_set, map_add, plus, is_number, op_answer, op_after}
use Rattle.clv_base.specs.Folding.{meets_key, deleted, added, key_written, meets_written, adds, IsRising}
use Rattle.clv_base.proofs.Folding.{eq_true, get_set, plus_is_number, rising_after}
use Rattle.law_base.proofs.Bools.{flip_and}
use Rattle.law_base.proofs.Running.{same_answer}
use Rattle.serial_laws.proofs.Held.OperationsAtPlaces.{HeldOp, clashes, after_ops, Runs, place_by_place}

-- ---- clashing is mutual

flip_or : (a b : Bool) → (a || b) ≡ (b || a)
flip_or true true = refl
flip_or true false = refl
flip_or false true = refl
flip_or false false = refl

pub clash_flip : (x y : HeldOp) → clashes x y ≡ clashes y x
clash_flip x y =
    ap (λ b. not b && (meets_written y.op (key_written x.op x.answer) || meets_written x.op (key_written y.op y.answer))) (flip_and (adds x.op x.answer) (adds y.op y.answer))
    ∙ ap (λ b. not (adds y.op y.answer && adds x.op x.answer) && b) (flip_or (meets_written y.op (key_written x.op x.answer)) (meets_written x.op (key_written y.op y.answer)))

-- ---- what an operation leaves of a value

kept_or_written : (k q : ℕ) (x : Option ValueType) (m : KeyMap) → ((q == k) ≡ true → x ≡ map_get q m) → map_get q (map_set k x m) ≡ map_get q m
kept_or_written k q x m h = get_set q k x m ∙ at (q == k) h
  where
    at : (b : Bool) → (b ≡ true → x ≡ map_get q m) → cond b x (map_get q m) ≡ map_get q m
    at true h = h refl
    at false h = refl

pub unwritten : (r : Op) (b : Answer) (m : KeyMap) (q : ℕ) → b ≡ op_answer r m → (key_written r b ≡ Some q → ⊥) → map_get q (op_after r m) ≡ map_get q m
unwritten (Get k) b m q e never = refl
unwritten (Scan lo hi) b m q e never = refl
unwritten (Put k v) b m q e never = kept_or_written k q (Some v) m (λ t. absurd (never (ap Some (sym (eq_true q k t)))))
unwritten (Del k) b m q e never = at (map_get k m) refl (subst (λ a. deleted k a ≡ Some q → ⊥) e never)
  where
    at : (f : Option ValueType) → map_get k m ≡ f → (deleted k (Value f) ≡ Some q → ⊥) → map_get q (map_set k None m) ≡ map_get q m
    at None t never = kept_or_written k q None m (λ i. sym (ap (λ j. map_get j m) (eq_true q k i) ∙ t))
    at (Some v) t never = kept_or_written k q None m (λ i. absurd (never (ap Some (sym (eq_true q k i)))))
unwritten (Add k n) b m q e never = at (map_get k m) refl (subst (λ a. added k a ≡ Some q → ⊥) e never)
  where
    at : (f : Option ValueType) → map_get k m ≡ f → (added k (Added (is_number f)) ≡ Some q → ⊥) → map_get q (map_add k n m) ≡ map_get q m
    at None t never = kept_or_written k q (plus n (map_get k m)) m (λ i. ap (plus n) t ∙ sym (ap (λ j. map_get j m) (eq_true q k i) ∙ t))
    at (Some (Bytes s)) t never = kept_or_written k q (plus n (map_get k m)) m (λ i. ap (plus n) t ∙ sym (ap (λ j. map_get j m) (eq_true q k i) ∙ t))
    at (Some (Num v)) t never = kept_or_written k q (plus n (map_get k m)) m (λ i. absurd (never (ap Some (sym (eq_true q k i)))))

-- an addition leaves whether there is a number
number_stays : (j k n : ℕ) (m : KeyMap) → is_number (map_get j (map_add k n m)) ≡ is_number (map_get j m)
number_stays j k n m = ap is_number (get_set j k (plus n (map_get k m)) m) ∙ at (j == k) refl
  where
    at : (b : Bool) → (j == k) ≡ b → is_number (cond b (plus n (map_get k m)) (map_get j m)) ≡ is_number (map_get j m)
    at true t = plus_is_number n (map_get k m) ∙ ap (λ i. is_number (map_get i m)) (sym (eq_true j k t))
    at false t = refl

both_added : (o r : Op) (a b : Answer) (m : KeyMap) → adds o a ≡ true → adds r b ≡ true → op_answer o (op_after r m) ≡ op_answer o m
both_added (Add j n) (Add k l) a b m e f = ap Added (number_stays j k l m)
both_added (Add j n) (Get k) a b m e f = absurd (both_ways false refl f)
both_added (Add j n) (Put k v) a b m e f = absurd (both_ways false refl f)
both_added (Add j n) (Del k) a b m e f = absurd (both_ways false refl f)
both_added (Add j n) (Scan lo hi) a b m e f = absurd (both_ways false refl f)
both_added (Get j) r a b m e f = absurd (both_ways false refl e)
both_added (Put j v) r a b m e f = absurd (both_ways false refl e)
both_added (Del j) r a b m e f = absurd (both_ways false refl e)
both_added (Scan lo hi) r a b m e f = absurd (both_ways false refl e)

both_true : (a b : Bool) → (a && b) ≡ true → (a ≡ true) × (b ≡ true)
both_true true b e = (refl, e)
both_true false b e = absurd (both_ways false refl e)

-- ---- two that don't clash

abbrev pub Fits : HeldOp → KeyMap → Type 0
Fits x m = x.answer ≡ op_answer x.op m

answer_stays : (x y : HeldOp) (m : KeyMap) → IsRising m → clashes x y ≡ false → Fits y m → op_answer x.op (op_after y.op m) ≡ op_answer x.op m
answer_stays x y m h c f = at (adds x.op x.answer && adds y.op y.answer) refl c
  where
    missed : meets_written x.op (key_written y.op y.answer) ≡ false → op_answer x.op (op_after y.op m) ≡ op_answer x.op m
    missed never = same_answer x.op (op_after y.op m) m (rising_after y.op m h) h (λ k met.
        unwritten y.op y.answer m k f (λ w. both_ways (meets_key x.op k) (subst (λ o. meets_written x.op o ≡ false) w never) met))

    at : (b : Bool) → (adds x.op x.answer && adds y.op y.answer) ≡ b → (not b && (meets_written y.op (key_written x.op x.answer) || meets_written x.op (key_written y.op y.answer))) ≡ false → op_answer x.op (op_after y.op m) ≡ op_answer x.op m
    at true t c = let p = both_true (adds x.op x.answer) (adds y.op y.answer) t in both_added x.op y.op x.answer y.answer m p.0 p.1
    at false t c = missed (or_parts (meets_written y.op (key_written x.op x.answer)) (meets_written x.op (key_written y.op y.answer)) c).1

-- the second one first, and then the first one, to the same map
record Swapped (x y : HeldOp) (m : KeyMap) : Type 0 where
  second_first : Fits y m
  first_second : Fits x (op_after y.op m)
  same_after : op_after x.op (op_after y.op m) ≡ op_after y.op (op_after x.op m)

swap : (x y : HeldOp) (m : KeyMap) → IsRising m → clashes x y ≡ false → Fits x m → Fits y (op_after x.op m) → Swapped x y m
swap x y m h c fx fy =
    let p = place_by_place m (record x { place = 1 } ∷ record y { place = 0 } ∷ []) 2 h (((λ l. c), tt), (tt, tt)) (fx, (fy, tt)) (omega arith, (omega arith, tt)) in
    record { second_first = (p.0 0 (omega arith)).0; first_second = (p.0 1 (omega arith)).0; same_after = p.1 }

-- ---- one and some others

-- from one map some operations lead to another
pub record Between (rs : List HeldOp) (m n : KeyMap) : Type 0 where
  pub rises : IsRising m
  pub runs : Runs m rs
  pub leads : after_ops m rs ≡ n

abbrev pub MeetsNone : HeldOp → List HeldOp → Type 0
MeetsNone x rs = AllByRecursion (λ r. clashes x r ≡ false) rs

pub record Passed (x : HeldOp) (rs : List HeldOp) (m n : KeyMap) : Type 0 where
  pub before : Fits x m
  pub behind : Fits x n
  pub between : Between rs (op_after x.op m) (op_after x.op n)

passed_one : (x r : HeldOp) (rs : List HeldOp) (m n : KeyMap) → IsRising m → clashes x r ≡ false → Fits r m → Fits x m → Passed x rs (op_after r.op m) n → Passed x (r ∷ rs) m n
passed_one x r rs m n h c fr fx p =
    let s : Swapped r x m = swap r x m h (clash_flip r x ∙ c) fr p.before in
    record {
      before = fx;
      behind = p.behind;
      between =
          record {
            rises = rising_after x.op m h;
            runs = (s.first_second, subst (λ l. Runs l rs) (sym s.same_after) p.between.runs);
            leads = ap (λ l. after_ops l rs) s.same_after ∙ p.between.leads;
          };
    }

-- what is answered so before the others is answered so behind them
pub passes_on : (x : HeldOp) (rs : List HeldOp) (m n : KeyMap) → Between rs m n → MeetsNone x rs → Fits x m → Passed x rs m n
passes_on x [] m n b c f =
    record { before = f; behind = f ∙ ap (op_answer x.op) b.leads; between = record { rises = rising_after x.op m b.rises; runs = tt; leads = ap (op_after x.op) b.leads } }
passes_on x (r ∷ rs) m n b c f =
    let g : Fits x (op_after r.op m) = f ∙ sym (answer_stays x r m b.rises c.0 b.runs.0) in
    passed_one x r rs m n b.rises c.0 b.runs.0 f (passes_on x rs (op_after r.op m) n (record { rises = rising_after r.op m b.rises; runs = b.runs.1; leads = b.leads }) c.1 g)

-- and the other way
pub passes_back : (x : HeldOp) (rs : List HeldOp) (m n : KeyMap) → Between rs m n → MeetsNone x rs → Fits x n → Passed x rs m n
passes_back x [] m n b c f = passes_on x [] m n b c (f ∙ sym (ap (op_answer x.op) b.leads))
passes_back x (r ∷ rs) m n b c f =
    let p : Passed x rs (op_after r.op m) n = passes_back x rs (op_after r.op m) n (record { rises = rising_after r.op m b.rises; runs = b.runs.1; leads = b.leads }) c.1 f in
    let s : Swapped r x m = swap r x m b.rises (clash_flip r x ∙ c.0) b.runs.0 p.before in
    passed_one x r rs m n b.rises c.0 b.runs.0 s.second_first p

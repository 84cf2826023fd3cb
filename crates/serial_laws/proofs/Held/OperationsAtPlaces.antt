-- Operations that hold, by the places of their transactions: some left out they run as before, and in order they are a serial run.
use Rattle.std.proofs.Common.{◌≡◌, refl, sym, ap, subst, ◌∙◌, ℕ, zero, suc, ◌+◌, ◌<◌, ◌≤◌, ◌⊎◌, ⊎_elim, true, false, cond, Bool, List, [], ◌∷◌, ◌++◌, map, Some, ◌==◌, nat_lt, arith}
use Rattle.std.specs.List.{AllByRecursion, filter}
use Rattle.std.proofs.lemmas.Bool.{cases_order, both_ways}
use Rattle.clv_base.specs.declared.ops.Op.{Op}
use Rattle.clv_base.specs.declared.ops.Answer.{Answer}
use Rattle.clv_base.specs.Maps.{KeyMap, Operates, op_answer, op_after, ops_after, ops_answers, replay_ops_answers, replay_ops_map}
use Rattle.clv_base.specs.Folding.{Placed, Replays, map_after, ClearOf, InOrder, at_place, grouped_from, AllPlacesBelow, ops_of, answers_of, IsRising}
use Rattle.clv_base.specs.Backs.{PlacedAct, ops_clash}
use Rattle.clv_base.proofs.Folding.{rising_after}
use Rattle.clv_base.proofs.Grouping.{is_serial_run}
use Rattle.law_base.specs.Items.{AllLater}

-- an operation with its answer, its number in its transaction, and the place of that
pub record HeldOp : Type 0 where
  pub place : ℕ
  pub number : ℕ
  pub op : Op
  pub answer : Answer

abbrev pub pair : HeldOp → Op × Answer
pair d = (d.op, d.answer)

abbrev pub as_act : HeldOp → PlacedAct
as_act d = record { place = d.place; number = d.number; act = Operates d.op; answer = Some d.answer }

abbrev pub clashes : HeldOp → HeldOp → Bool
clashes x y = ops_clash (pair x) (pair y)

-- the map after them, and that each gives its answer
abbrev pub after_ops : KeyMap → List HeldOp → KeyMap
after_ops m [] = m
after_ops m (d ∷ ds) = after_ops (op_after d.op m) ds

abbrev pub Runs : KeyMap → List HeldOp → Type 0
Runs m [] = Unit {0}
Runs m (d ∷ ds) = (d.answer ≡ op_answer d.op m) × Runs (op_after d.op m) ds

-- ---- one list behind another

pub after_append : (m : KeyMap) (xs ys : List HeldOp) → after_ops m (xs ++ ys) ≡ after_ops (after_ops m xs) ys
after_append m [] ys = refl
after_append m (x ∷ xs) ys = after_append (op_after x.op m) xs ys

pub runs_first : (m : KeyMap) (xs ys : List HeldOp) → Runs m (xs ++ ys) → Runs m xs
runs_first m [] ys r = tt
runs_first m (x ∷ xs) ys r = (r.0, runs_first (op_after x.op m) xs ys r.1)

pub runs_rest : (m : KeyMap) (xs ys : List HeldOp) → Runs m (xs ++ ys) → Runs (after_ops m xs) ys
runs_rest m [] ys r = r
runs_rest m (x ∷ xs) ys r = runs_rest (op_after x.op m) xs ys r.1

pub runs_both : (m : KeyMap) (xs ys : List HeldOp) → Runs m xs → Runs (after_ops m xs) ys → Runs m (xs ++ ys)
runs_both m [] ys r s = s
runs_both m (x ∷ xs) ys r s = (r.0, runs_both (op_after x.op m) xs ys r.1 s)

pub rising_ops : (m : KeyMap) (ds : List HeldOp) → IsRising m → IsRising (after_ops m ds)
rising_ops m [] h = h
rising_ops m (d ∷ ds) h = rising_ops (op_after d.op m) ds (rising_after d.op m h)

-- ---- as operations at places

abbrev placed : HeldOp → Placed
placed d = record { place = d.place; op = d.op; answer = d.answer }

runs_placed : (m : KeyMap) (ds : List HeldOp) → Runs m ds → Replays m (map placed ds)
runs_placed m [] r = tt
runs_placed m (d ∷ ds) r = (r.0, runs_placed (op_after d.op m) ds r.1)

after_placed : (m : KeyMap) (ds : List HeldOp) → map_after m (map placed ds) ≡ after_ops m ds
after_placed m [] = refl
after_placed m (d ∷ ds) = after_placed (op_after d.op m) ds

-- none of a lower place comes later and clashes
abbrev pub IsClear : HeldOp → HeldOp → Type 0
IsClear x y = nat_lt y.place x.place ≡ true → clashes x y ≡ false

clear_placed : (x : HeldOp) (ds : List HeldOp) → AllByRecursion (IsClear x) ds → ClearOf (placed x) (map placed ds)
clear_placed x [] a = tt
clear_placed x (d ∷ ds) a = (a.0, clear_placed x ds a.1)

order_placed : (ds : List HeldOp) → AllLater IsClear ds → InOrder (map placed ds)
order_placed [] o = tt
order_placed (d ∷ ds) o = (clear_placed d ds o.0, order_placed ds o.1)

abbrev pub AllBelow : ℕ → List HeldOp → Type 0
AllBelow k ds = AllByRecursion (λ d. d.place < k) ds

below_placed : (k : ℕ) (ds : List HeldOp) → AllBelow k ds → AllPlacesBelow k (map placed ds)
below_placed k [] a = tt
below_placed k (d ∷ ds) a = (a.0, below_placed k ds a.1)

abbrev pub at_ : ℕ → List HeldOp → List HeldOp
at_ n ds = filter (λ d. d.place == n) ds

at_placed : (n : ℕ) (ds : List HeldOp) → at_place n (map placed ds) ≡ map placed (at_ n ds)
at_placed n [] = refl
at_placed n (d ∷ ds) = at (d.place == n) (at_placed n ds)
  where
    at : (b : Bool) → at_place n (map placed ds) ≡ map placed (at_ n ds) → cond b (placed d ∷ at_place n (map placed ds)) (at_place n (map placed ds)) ≡ map placed (cond b (d ∷ at_ n ds) (at_ n ds))
    at true e = ap (λ l. placed d ∷ l) e
    at false e = e

-- ---- place by place

-- the map before a place, by those that hold at the lower ones
abbrev pub start : KeyMap → List HeldOp → ℕ → KeyMap
start m ds zero = m
start m ds (suc n) = after_ops (start m ds n) (at_ n ds)

ops_are : (m : KeyMap) (ds : List HeldOp) → ops_after (ops_of (map placed ds)) m ≡ after_ops m ds
ops_are m [] = refl
ops_are m (d ∷ ds) = ops_are (op_after d.op m) ds

first_two : {X : Type 0} (x y : X) (xs ys : List X) → x ∷ xs ≡ y ∷ ys → (x ≡ y) × (xs ≡ ys)
first_two x y xs ys e = (cc, cc)

answers_run : (m : KeyMap) (ds : List HeldOp) → ops_answers (ops_of (map placed ds)) m ≡ answers_of (map placed ds) → Runs m ds
answers_run m [] e = tt
answers_run m (d ∷ ds) e = let p = first_two _ _ _ _ e in (sym p.0, answers_run (op_after d.op m) ds p.1)

next_start : (m : KeyMap) (ds : List HeldOp) (n : ℕ) → ops_after (ops_of (at_place n (map placed ds))) (start m ds n) ≡ start m ds (suc n)
next_start m ds n = ap (λ l. ops_after (ops_of l) (start m ds n)) (at_placed n ds) ∙ ops_are (start m ds n) (at_ n ds)

each_runs : (m : KeyMap) (ds : List HeldOp) (k n : ℕ) → replay_ops_answers (start m ds n) (map ops_of (grouped_from n k (map placed ds))) ≡ map answers_of (grouped_from n k (map placed ds))
    → (j : ℕ) → n ≤ j → j < n + k → Runs (start m ds j) (at_ j ds)
each_runs m ds zero n e j l i = absurd (omega arith)
each_runs m ds (suc k) n e j l i =
    let p = first_two _ _ _ _ e in
    ⊎_elim
    (λ (q : n ≡ j). subst (λ j. Runs (start m ds j) (at_ j ds)) q
    (answers_run (start m ds n) (at_ n ds) (subst (λ l. ops_answers (ops_of l) (start m ds n) ≡ answers_of l) (at_placed n ds) p.0)))
    (λ (q : (n < j) ⊎ (j < n)). each_runs m ds k (suc n) (subst (λ x. replay_ops_answers x (map ops_of (grouped_from (suc n) k (map placed ds))) ≡ map answers_of (grouped_from (suc n) k (map placed ds))) (next_start m ds n) p.1) j (omega (arith, q)) (omega arith))
    (cases_order n j)

last_start : (m : KeyMap) (ds : List HeldOp) (k n : ℕ) → replay_ops_map (start m ds n) (map ops_of (grouped_from n k (map placed ds))) ≡ start m ds (n + k)
last_start m ds zero n = let e : n ≡ n + 0 = omega arith in ap (start m ds) e
last_start m ds (suc k) n =
    let e : suc n + k ≡ n + suc k = omega arith in
    ap (λ x. replay_ops_map x (map ops_of (grouped_from (suc n) k (map placed ds)))) (next_start m ds n) ∙ last_start m ds k (suc n) ∙ ap (start m ds) e

-- operations in order run place by place, and come to the same map
pub place_by_place : (m : KeyMap) (ds : List HeldOp) (k : ℕ) → IsRising m → AllLater IsClear ds → Runs m ds → AllBelow k ds
    → ((j : ℕ) → j < k → Runs (start m ds j) (at_ j ds)) × (start m ds k ≡ after_ops m ds)
place_by_place m ds k h o r b =
    let s = is_serial_run m (map placed ds) k h (order_placed ds o) (runs_placed m ds r) (below_placed k ds b) in
    let e : 0 + k ≡ k = omega arith in (
      λ j i. each_runs m ds k 0 s.0 j (omega arith) (omega arith),
      ap (start m ds) (sym e) ∙ sym (last_start m ds k 0) ∙ s.1 ∙ after_placed m ds,
    )

-- ---- some left out

abbrev apart : (HeldOp → Bool) → HeldOp → HeldOp
apart keep d = record d { place = cond (keep d) 0 1 }

runs_apart : (keep : HeldOp → Bool) (m : KeyMap) (ds : List HeldOp) → Runs m ds → Runs m (map (apart keep) ds)
runs_apart keep m [] r = tt
runs_apart keep m (d ∷ ds) r = (r.0, runs_apart keep (op_after d.op m) ds r.1)

unapart : (keep : HeldOp → Bool) (m : KeyMap) (ds : List HeldOp) → Runs m (at_ 0 (map (apart keep) ds)) → Runs m (filter keep ds)
unapart keep m [] r = tt
unapart keep m (d ∷ ds) r = at (keep d) r (λ n. unapart keep n ds)
  where
    rest : List HeldOp
    rest = at_ 0 (map (apart keep) ds)

    at : (b : Bool) → Runs m (cond (cond b 0 1 == 0) (record d { place = cond b 0 1 } ∷ rest) rest) → ((n : KeyMap) → Runs n rest → Runs n (filter keep ds)) → Runs m (cond b (d ∷ filter keep ds) (filter keep ds))
    at true r k = (r.0, k (op_after d.op m) r.1)
    at false r k = k m r

-- one that is left out clashes with none that stays and comes later
abbrev pub Leaves : (HeldOp → Bool) → HeldOp → HeldOp → Type 0
Leaves keep x y = keep x ≡ false → keep y ≡ true → clashes x y ≡ false

all_apart : (keep : HeldOp → Bool) (x : HeldOp) (ds : List HeldOp) → AllByRecursion (Leaves keep x) ds → AllByRecursion (IsClear (apart keep x)) (map (apart keep) ds)
all_apart keep x [] a = tt
all_apart keep x (d ∷ ds) a = (at (keep x) (keep d) refl refl, all_apart keep x ds a.1)
  where
    at : (b c : Bool) → keep x ≡ b → keep d ≡ c → nat_lt (cond c 0 1) (cond b 0 1) ≡ true → clashes x d ≡ false
    at true true e f l = absurd (both_ways false refl l)
    at true false e f l = absurd (both_ways false refl l)
    at false true e f l = a.0 e f
    at false false e f l = absurd (both_ways false refl l)

order_apart : (keep : HeldOp → Bool) (ds : List HeldOp) → AllLater (Leaves keep) ds → AllLater IsClear (map (apart keep) ds)
order_apart keep [] o = tt
order_apart keep (d ∷ ds) o = (all_apart keep d ds o.0, order_apart keep ds o.1)

below_two : (keep : HeldOp → Bool) (ds : List HeldOp) → AllBelow 2 (map (apart keep) ds)
below_two keep [] = tt
below_two keep (d ∷ ds) = (at (keep d), below_two keep ds)
  where
    at : (b : Bool) → cond b 0 1 < 2
    at true = omega arith
    at false = omega arith

pub runs_kept : (keep : HeldOp → Bool) (m : KeyMap) (ds : List HeldOp) → IsRising m → AllLater (Leaves keep) ds → Runs m ds → Runs m (filter keep ds)
runs_kept keep m ds h o r =
    unapart keep m ds ((place_by_place m (map (apart keep) ds) 2 h (order_apart keep ds o) (runs_apart keep m ds r) (below_two keep ds)).0 0 (omega arith))

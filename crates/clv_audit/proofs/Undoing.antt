-- Acts taken back, the last one first.
use Rattle.std.proofs.Common.{◌≡◌, ℕ, suc, ◌-◌, ◌<◌, ◌≤◌, Bool, true, false, cond, not, ◌==◌, nat_le, List, [], ◌∷◌, ◌++◌, length, get_or, Option, Some, None, inl, inr, refl, sym, ap, ap₂, ◌∙◌, subst, arith, append-nil, length-append}
use Rattle.std.proofs.lemmas.Bool.{and_parts, and_from, cases_lt, le-leb, lt-leb, leb-true}
use Rattle.std.specs.List.{list_all}
use Rattle.clv_base.specs.Maps.{KeyMap, map_set, map_get, op_after, plus}
use Rattle.clv_base.specs.Folding.{IsRising}
use Rattle.clv_base.specs.declared.values.Value.{Value as ValueType}
use Rattle.clv_base.proofs.Folding.{get_set, rising_set, same_map, eq_true}
use Rattle.report_reading.specs.Standing.{Rise, up_to}
use Rattle.report_reading.proofs.Laws.{last_of_rest}
use Rattle.clv_audit.specs.declared.steps.Step.{Step}
use Rattle.std.proofs.lemmas.Option.{same_Some}
use Rattle.clv_base.specs.declared.ops.Op.{Op}
use Rattle.clv_base.specs.declared.ops.Op.TheVariants.{Get, Put, Del, Scan, Add}
use Rattle.clv_audit.specs.Keeping.{written_key, undone_by, undone, steps_above, steps_up_to, numbers_of}

none_key : (k : ℕ) → ◌≡◌ {A = Option ℕ} None (Some k) → ⊥
none_key k e = cc

-- what a key had before is put back
cond_same : {A : Type 0} (b : Bool) (x y z : A) → (b ≡ true → z ≡ x) → cond b x (cond b y z) ≡ z
cond_same true x y z h = sym (h refl)
cond_same false x y z h = refl

pub set_back : (k : ℕ) (x : Option ValueType) (m : KeyMap) → IsRising m → map_set k (map_get k m) (map_set k x m) ≡ m
set_back k x m r =
    same_map (map_set k (map_get k m) (map_set k x m)) m (rising_set k (map_get k m) (map_set k x m) (rising_set k x m r)) r
    (λ q. get_set q k (map_get k m) (map_set k x m) ∙ ap (cond (q == k) (map_get k m)) (get_set q k x m)
    ∙ cond_same (q == k) (map_get k m) x (map_get q m) (λ e. ap (λ (j : ℕ). map_get j m) (eq_true q k e)))

-- an operation is taken back at the key that it may write
pub op_back : (o : Op) (k : ℕ) (m : KeyMap) → IsRising m → written_key o ≡ Some k → map_set k (map_get k m) (op_after o m) ≡ m
op_back (Get j) k m r e = absurd (none_key k e)
op_back (Put j v) k m r e = (let same : j ≡ k = same_Some j k e in subst (λ (i : ℕ). map_set i (map_get i m) (map_set j (Some v) m) ≡ m) same (set_back j (Some v) m r))
op_back (Del j) k m r e = (let same : j ≡ k = same_Some j k e in subst (λ (i : ℕ). map_set i (map_get i m) (map_set j None m) ≡ m) same (set_back j None m r))
op_back (Scan lo hi) k m r e = absurd (none_key k e)
op_back (Add j by) k m r e =
    (let same : j ≡ k = same_Some j k e in subst (λ (i : ℕ). map_set i (map_get i m) (map_set j (plus by (map_get j m)) m) ≡ m) same (set_back j (plus by (map_get j m)) m r))

pub op_idle : (o : Op) (m : KeyMap) → written_key o ≡ None → op_after o m ≡ m
op_idle (Get j) m e = refl
op_idle (Put j v) m e = absurd (none_key j (sym e))
op_idle (Del j) m e = absurd (none_key j (sym e))
op_idle (Scan lo hi) m e = refl
op_idle (Add j by) m e = absurd (none_key j (sym e))

-- ---- lists of acts

pub undone_append : (ss ts : List Step) (m : KeyMap) → undone (ss ++ ts) m ≡ undone ss (undone ts m)
undone_append [] ts m = refl
undone_append (s ∷ ss) ts m = ap (undone_by s.written) (undone_append ss ts m)

at_true : {A : Type 0} (b : Bool) (x y : A) → b ≡ true → cond b x y ≡ x
at_true true x y e = refl
at_true false x y e = absurd cc

at_false : {A : Type 0} (b : Bool) (x y : A) → b ≡ false → cond b x y ≡ y
at_false true x y e = absurd cc
at_false false x y e = refl

pub above_append : (u : ℕ) (ss ts : List Step) → steps_above u (ss ++ ts) ≡ steps_above u ss ++ steps_above u ts
above_append u [] ts = refl
above_append u (s ∷ ss) ts = at (not (nat_le s.number u)) (above_append u ss ts)
  where
    at : (b : Bool) → steps_above u (ss ++ ts) ≡ steps_above u ss ++ steps_above u ts
        → cond b (s ∷ steps_above u (ss ++ ts)) (steps_above u (ss ++ ts)) ≡ cond b (s ∷ steps_above u ss) (steps_above u ss) ++ steps_above u ts
    at true e = ap (λ l. s ∷ l) e
    at false e = e

pub up_to_append : (u : ℕ) (ss ts : List Step) → steps_up_to u (ss ++ ts) ≡ steps_up_to u ss ++ steps_up_to u ts
up_to_append u [] ts = refl
up_to_append u (s ∷ ss) ts = at (nat_le s.number u) (up_to_append u ss ts)
  where
    at : (b : Bool) → steps_up_to u (ss ++ ts) ≡ steps_up_to u ss ++ steps_up_to u ts
        → cond b (s ∷ steps_up_to u (ss ++ ts)) (steps_up_to u (ss ++ ts)) ≡ cond b (s ∷ steps_up_to u ss) (steps_up_to u ss) ++ steps_up_to u ts
    at true e = ap (λ l. s ∷ l) e
    at false e = e

pub one_above : (u : ℕ) (s : Step) → u < s.number → steps_above u (s ∷ []) ≡ s ∷ []
one_above u s h = at_true (not (nat_le s.number u)) (s ∷ []) [] (ap not (lt-leb s.number u h))

pub one_up_to : (u : ℕ) (s : Step) → u < s.number → steps_up_to u (s ∷ []) ≡ []
one_up_to u s h = at_false (nat_le s.number u) (s ∷ []) [] (lt-leb s.number u h)

-- acts all of which have numbers up to one
pub none_above : (u : ℕ) (ss : List Step) → list_all (λ n. nat_le n u) (numbers_of ss) ≡ true → steps_above u ss ≡ []
none_above u [] h = refl
none_above u (s ∷ ss) h =
    let parts = and_parts (nat_le s.number u) (list_all (λ n. nat_le n u) (numbers_of ss)) h in
    at_false (not (nat_le s.number u)) (s ∷ steps_above u ss) (steps_above u ss) (ap not parts.0) ∙ none_above u ss parts.1

pub all_up_to : (u : ℕ) (ss : List Step) → list_all (λ n. nat_le n u) (numbers_of ss) ≡ true → steps_up_to u ss ≡ ss
all_up_to u [] h = refl
all_up_to u (s ∷ ss) h =
    let parts = and_parts (nat_le s.number u) (list_all (λ n. nat_le n u) (numbers_of ss)) h in
    at_true (nat_le s.number u) (s ∷ steps_up_to u ss) (steps_up_to u ss) parts.0 ∙ ap (λ l. s ∷ l) (all_up_to u ss parts.1)

-- of numbers that rise the last is the greatest
pub last_greatest : (low u : ℕ) (ss : List Step) (s : Step) → Rise low (numbers_of ss) → 0 < length ss → s ≡ get_or ss (length ss - 1) s → s.number ≤ u → list_all (λ n. nat_le n u) (numbers_of ss) ≡ true
last_greatest low u [] s r some at h = absurd (omega arith)
last_greatest low u (x ∷ []) s r some at h = and_from _ _ (le-leb x.number u (let same = ap (λ (y : Step). y.number) at in omega arith)) refl
last_greatest low u (x ∷ y ∷ ss) s r some at h =
    let rest = last_greatest (suc x.number) u (y ∷ ss) s r.1 (omega arith) (last_of_rest x y ss s at) h in
    let next = (r.1).0 in
    let up = leb-true y.number u (and_parts (nat_le y.number u) (list_all (λ n. nat_le n u) (numbers_of ss)) rest).0 in
    and_from _ _ (le-leb x.number u (omega arith)) rest

pub numbers_up_to : (u : ℕ) (ss : List Step) → numbers_of (steps_up_to u ss) ≡ up_to u (numbers_of ss)
numbers_up_to u [] = refl
numbers_up_to u (s ∷ ss) = at (nat_le s.number u) (numbers_up_to u ss)
  where
    at : (b : Bool) → numbers_of (steps_up_to u ss) ≡ up_to u (numbers_of ss)
        → numbers_of (cond b (s ∷ steps_up_to u ss) (steps_up_to u ss)) ≡ cond b (s.number ∷ up_to u (numbers_of ss)) (up_to u (numbers_of ss))
    at true e = ap (λ l. s.number ∷ l) e
    at false e = e

pub numbers_append : (ss ts : List Step) → numbers_of (ss ++ ts) ≡ numbers_of ss ++ numbers_of ts
numbers_append [] ts = refl
numbers_append (s ∷ ss) ts = ap (λ l. s.number ∷ l) (numbers_append ss ts)

-- what is above the lower number is what is above it of those up to the greater, and what is above that
pub above_in_two : (low u v : ℕ) (ss : List Step) → u ≤ v → Rise low (numbers_of ss) → steps_above u ss ≡ steps_above u (steps_up_to v ss) ++ steps_above v ss
above_in_two low u v [] h r = refl
above_in_two low u v (s ∷ ss) h r = elim (cases_lt v s.number) [
  | inl over ↦
      -- all further ones are above both
      ap₂ (λ (a b : List Step). a ++ b) (sym (ap (steps_above u) (no_up_to s ss over r.1))) (same_above s ss over r.1)
  | inr under ↦
      split (not (nat_le s.number u)) (above_in_two (suc s.number) u v ss h r.1)
      ∙ ap₂ (λ (a b : List Step). a ++ b) (sym (ap (steps_above u) (at_true (nat_le s.number v) (s ∷ steps_up_to v ss) (steps_up_to v ss) (le-leb s.number v under)))) (sym (at_false (not (nat_le s.number v)) (s ∷ steps_above v ss) (steps_above v ss) (ap not (le-leb s.number v under))))
]
  where
    no_up_to : (x : Step) (xs : List Step) → v < x.number → Rise (suc x.number) (numbers_of xs) → steps_up_to v (x ∷ xs) ≡ []
    no_up_to x [] o q = at_false (nat_le x.number v) (x ∷ []) [] (lt-leb x.number v o)
    no_up_to x (y ∷ xs) o q =
        let next = q.0 in
        at_false (nat_le x.number v) (x ∷ steps_up_to v (y ∷ xs)) (steps_up_to v (y ∷ xs)) (lt-leb x.number v o) ∙ no_up_to y xs (omega arith) q.1

    same_above : (x : Step) (xs : List Step) → v < x.number → Rise (suc x.number) (numbers_of xs) → steps_above u (x ∷ xs) ≡ steps_above v (x ∷ xs)
    same_above x [] o q = one_above u x (omega arith) ∙ sym (one_above v x o)
    same_above x (y ∷ xs) o q =
        let next = q.0 in
        at_true (not (nat_le x.number u)) (x ∷ steps_above u (y ∷ xs)) (steps_above u (y ∷ xs)) (ap not (lt-leb x.number u (omega arith)))
        ∙ ap (λ l. x ∷ l) (same_above y xs (omega arith) q.1)
        ∙ sym (at_true (not (nat_le x.number v)) (x ∷ steps_above v (y ∷ xs)) (steps_above v (y ∷ xs)) (ap not (lt-leb x.number v o)))

    split : (b : Bool) → steps_above u ss ≡ steps_above u (steps_up_to v ss) ++ steps_above v ss
        → cond b (s ∷ steps_above u ss) (steps_above u ss) ≡ cond b (s ∷ steps_above u (steps_up_to v ss)) (steps_above u (steps_up_to v ss)) ++ steps_above v ss
    split true deeper = ap (λ l. s ∷ l) deeper
    split false deeper = deeper

-- ---- the last act taken back

at_end : {A : Type 0} (left : List A) (s q : A) → get_or (left ++ s ∷ []) (length left) q ≡ s
at_end [] s q = refl
at_end (x ∷ left) s q = at_end left s q

steps_front : (low : ℕ) (xs ys : List Step) → Rise low (numbers_of (xs ++ ys)) → Rise low (numbers_of xs)
steps_front low [] ys r = tt
steps_front low (x ∷ xs) ys r = (r.0, steps_front (suc x.number) xs ys r.1)

pub taken_back :
    (u : ℕ) (ss lent left : List Step) (s q : Step) (m n : KeyMap) → Rise 0 (numbers_of ss) → lent ≡ ss → q ≡ get_or lent (length lent - 1) q → u < q.number → ss ≡ left ++ s ∷ [] → n ≡ undone_by s.written m
    → Rise 0 (numbers_of left) × (undone (steps_above u left) n ≡ undone (steps_above u ss) m) × (steps_up_to u left ≡ steps_up_to u ss)
taken_back u ss lent left s q m n r same at h split is =
    let size = ap length (same ∙ split) ∙ length-append left (s ∷ []) in
    let place : length lent - 1 ≡ length left = omega arith in
    let last : q ≡ s = at ∙ ap (λ (l : List Step). get_or l (length lent - 1) q) (same ∙ split) ∙ ap (λ (k : ℕ). get_or (left ++ s ∷ []) k q) place ∙ at_end left s q in
    let above : u < s.number = subst (λ (x : Step). u < x.number) last h in (
      steps_front 0 left (s ∷ []) (subst (λ (l : List Step). Rise 0 (numbers_of l)) split r),
      ap (undone (steps_above u left)) is
          ∙ sym (ap (λ (l : List Step). undone l m) (ap (steps_above u) split ∙ above_append u left (s ∷ []) ∙ ap (λ (l : List Step). steps_above u left ++ l) (one_above u s above)) ∙ undone_append (steps_above u left) (s ∷ []) m),
      sym (ap (steps_up_to u) split ∙ up_to_append u left (s ∷ []) ∙ ap (λ (l : List Step). steps_up_to u left ++ l) (one_up_to u s above) ∙ append-nil (steps_up_to u left)),
    )

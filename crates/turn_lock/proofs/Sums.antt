-- Sums over the views, and filters by a number.
use Rattle.std.proofs.Common.{Option, Some, None, ◌≡◌, ◌≢◌, ℕ, zero, suc, ◌+◌, ◌==◌, ◌<◌, ◌≤◌, cond, List, [], ◌∷◌, ◌++◌, length, set, sym, refl, ap, ◌∙◌, subst, arith, All, sum_by, eq-eqb, ne_eqb, ⊎_elim, append-nil}
use Rattle.std.proofs.lemmas.List.Sums.{sum_by-cons}
use Rattle.std.proofs.lemmas.List.Elements.{All-head, All-tail, All-cons, All-nil, filter-append}
use Rattle.std.proofs.lemmas.List.{append_cancel_left}
use mathlib.Core.Logic.{dite}
use mathlib.Core.Option.{some, some-injective, some-ne-none}
use native.Mathlib.Decide.{ℕ_discrete}
use lib.ListN.{get_elem?}
use Rattle.atomic_table.proofs.Lists.{at_set}
use Rattle.turn_lock.specs.Journals.{StartsWith, entries_by, durable_of}
use Rattle.turn_lock.specs.Rule.{sum_over}

module _ {V : Type 0} where
  pub sum_set : (f : V → ℕ) (l : List V) (i : ℕ) (v w : V) → get_elem? l i ≡ some v → sum_by f (set l i w) + f v ≡ sum_by f l + f w
  sum_set f [] i v w e = absurd (some-ne-none v (sym e))
  sum_set f (x ∷ xs) zero v w e = omega (arith, sum_by-cons f w xs, sum_by-cons f x xs, ap f (some-injective x v e))
  sum_set f (x ∷ xs) (suc i) v w e = omega (arith, sum_by-cons f x (set xs i w), sum_by-cons f x xs, sum_set f xs i v w e)

  pub one_le : (f : V → ℕ) (l : List V) (i : ℕ) (v : V) → get_elem? l i ≡ some v → f v ≤ sum_by f l
  one_le f [] i v e = absurd (some-ne-none v (sym e))
  one_le f (x ∷ xs) zero v e = omega (arith, sum_by-cons f x xs, ap f (some-injective x v e))
  one_le f (x ∷ xs) (suc i) v e = omega (arith, sum_by-cons f x xs, one_le f xs i v e)

  pub two_le : (f : V → ℕ) (l : List V) (i j : ℕ) (u v : V) → i ≢ j → get_elem? l i ≡ some u → get_elem? l j ≡ some v → f u + f v ≤ sum_by f l
  two_le f [] i j u v n e d = absurd (some-ne-none u (sym e))
  two_le f (x ∷ xs) zero zero u v n e d = absurd (n refl)
  two_le f (x ∷ xs) zero (suc j) u v n e d = omega (arith, sum_by-cons f x xs, ap f (some-injective x u e), one_le f xs j v d)
  two_le f (x ∷ xs) (suc i) zero u v n e d = omega (arith, sum_by-cons f x xs, ap f (some-injective x v d), one_le f xs i u e)
  two_le f (x ∷ xs) (suc i) (suc j) u v n e d = omega (arith, sum_by-cons f x xs, two_le f xs i j u v (λ h. n (ap suc h)) e d)

  pub sum_le : (f g : V → ℕ) (l : List V) → ((i : ℕ) (v : V) → get_elem? l i ≡ some v → f v ≤ g v) → sum_by f l ≤ sum_by g l
  sum_le f g [] h = omega arith
  sum_le f g (x ∷ xs) h = omega (arith, sum_by-cons f x xs, sum_by-cons g x xs, h 0 x refl, sum_le f g xs (λ i v e. h (suc i) v e))

  pub zeros : (f g : V → ℕ) (l : List V) → ((v : V) → f v ≡ 0 → g v ≡ 0) → sum_by f l ≡ 0 → sum_by g l ≡ 0
  zeros f g [] h e = refl
  zeros f g (x ∷ xs) h e = let a = sum_by-cons f x xs in omega (arith, sum_by-cons g x xs, h x (omega arith), zeros f g xs h (omega arith))

  -- where f is all at one place, so is what is 0 wherever f is
  pub alone : (f g : V → ℕ) (l : List V) (i : ℕ) (v : V) → get_elem? l i ≡ some v → ((u : V) → f u ≡ 0 → g u ≡ 0) → sum_by f l ≡ f v → sum_by g l ≡ g v
  alone f g [] i v e h s = absurd (some-ne-none v (sym e))
  alone f g (x ∷ xs) zero v e h s = let a = sum_by-cons f x xs in let b = ap f (some-injective x v e) in
      omega (arith, sum_by-cons g x xs, ap g (some-injective x v e), zeros f g xs h (omega arith))
  alone f g (x ∷ xs) (suc i) v e h s = let a = sum_by-cons f x xs in let b = one_le f xs i v e in
      omega (arith, sum_by-cons g x xs, h x (omega arith), alone f g xs i v e h (omega arith))

  pub sum_one : (l : List V) → sum_by (λ _. 1) l ≡ length l
  sum_one [] = refl
  sum_one (x ∷ xs) = omega (arith, sum_by-cons (λ (_ : V). 1) x xs, sum_one xs)

  pub no_one : (l : List V) → length l ≡ 0 → l ≡ []
  no_one [] e = refl
  no_one (x ∷ xs) e = absurd (omega arith)

  pub only_one : (l : List V) → length l ≡ 1 → (x : V) × (l ≡ x ∷ [])
  only_one [] e = absurd (omega arith)
  only_one (x ∷ xs) e = (x, ap (λ ys. x ∷ ys) (no_one xs (omega arith)))

  pub seats_stay : (K : ℕ → V → Type 0) (vs : List V) (me : ℕ) (w : V) → K me w → ((j : ℕ) (d : V) → j ≢ me → get_elem? vs j ≡ some d → K j d)
      → (j : ℕ) (d : V) → get_elem? (set vs me w) j ≡ some d → K j d
  seats_stay K vs me w mine others j d e = ⊎_elim (λ (t : (j ≡ me) × (w ≡ d)). subst (λ (x : ℕ × V). K x.0 x.1) (λ i. (sym t.0 i, t.1 i)) mine)
      (λ (t : (j ≢ me) × (get_elem? vs j ≡ some d)). others j d t.0 t.1) (at_set vs me j w d e)

abbrev value_or : {A : Type 0} → A → Option A → A
value_or d None = d
value_or d (Some x) = x

pub one_same : {A : Type 0} (a b : A) → (Some a ∷ []) ≡ (Some b ∷ []) → a ≡ b
one_same a b e = cc

pub some_inj : {A : Type 0} (x y : A) → Some x ≡ Some y → x ≡ y
some_inj x y e = ap (value_or x) e

abbrev pub is_at : ℕ → ℕ → ℕ
is_at w x = cond (x == w) 1 0

pub is_at-here : (w x : ℕ) → x ≡ w → is_at w x ≡ 1
is_at-here w x e = ap (λ b. cond b 1 0) (eq-eqb x w e)

pub is_at-else : (w x : ℕ) → x ≢ w → is_at w x ≡ 0
is_at-else w x e = ap (λ b. cond b 1 0) (ne_eqb x w e)

pub not_at : (w x : ℕ) → is_at w x ≡ 0 → x ≢ w
not_at w x z e = let a = is_at-here w x e in absurd (omega arith)

pub span_none : (w k m : ℕ) → w < k → sum_over (is_at w) k m ≡ 0
span_none w k zero l = refl
span_none w k (suc m) l = omega (arith, is_at-else w k (λ e. omega arith), span_none w (suc k) m (omega arith))

pub span_one : (w k m : ℕ) → k ≤ w → w < k + m → sum_over (is_at w) k m ≡ 1
span_one w k zero l h = absurd (omega arith)
span_one w k (suc m) l h = dite (ℕ_discrete k w) (λ e. omega (arith, is_at-here w k e, span_none w (suc k) m (omega arith))) (λ ne. omega (arith, is_at-else w k ne, span_one w (suc k) m (omega arith) (omega arith)))

pub span_ones : (k m : ℕ) → sum_over (λ _. 1) k m ≡ m
span_ones k zero = refl
span_ones k (suc m) = omega (arith, span_ones (suc k) m)

-- no element has the number w
pub none_at : {X : Type 0} (f : X → ℕ) (w : ℕ) (l : List X) → sum_by (λ r. is_at w (f r)) l ≡ 0 → All (λ r. f r ≢ w) l
none_at {X} f w [] e = All-nil (λ r. f r ≢ w)
none_at {X} f w (x ∷ xs) e = let a = sum_by-cons (λ (r : X). is_at w (f r)) x xs in All-cons (λ r. f r ≢ w) x xs (not_at w (f x) (omega arith)) (none_at f w xs (omega arith))

pub sum_none : {X : Type 0} (f : X → ℕ) (w : ℕ) (l : List X) → All (λ r. f r ≢ w) l → sum_by (λ r. is_at w (f r)) l ≡ 0
sum_none {X} f w [] a = refl
sum_none {X} f w (x ∷ xs) a = omega (arith, sum_by-cons (λ (r : X). is_at w (f r)) x xs, is_at-else w (f x) (All-head (λ r. f r ≢ w) x xs a), sum_none f w xs (All-tail (λ r. f r ≢ w) x xs a))

module _ {E : Type 0} (maker : E → ℕ) where
  pub entries_by-all : (w : ℕ) (d : List E) → All (λ e. maker e ≡ w) d → entries_by maker w d ≡ d
  entries_by-all w [] a = refl
  entries_by-all w (x ∷ xs) a = let P = λ (e : E). maker e ≡ w in
      ap (λ b. cond b (x ∷ entries_by maker w xs) (entries_by maker w xs)) (eq-eqb (maker x) w (All-head P x xs a)) ∙ ap (λ ys. x ∷ ys) (entries_by-all w xs (All-tail P x xs a))

  pub entries_by-none : (w q : ℕ) (d : List E) → q ≢ w → All (λ e. maker e ≡ w) d → entries_by maker q d ≡ []
  entries_by-none w q [] ne a = refl
  entries_by-none w q (x ∷ xs) ne a = let P = λ (e : E). maker e ≡ w in
      ap (λ b. cond b (x ∷ entries_by maker q xs) (entries_by maker q xs)) (ne_eqb (maker x) q (λ e. ne (sym e ∙ All-head P x xs a))) ∙ entries_by-none w q xs ne (All-tail P x xs a)

  pub entries_by-append : (w : ℕ) (xs ys : List E) → entries_by maker w (xs ++ ys) ≡ entries_by maker w xs ++ entries_by maker w ys
  entries_by-append w xs ys = filter-append (λ e. maker e == w) xs ys

  -- what is beyond a list that has all entries of w has none
  pub entries_by-rest : (w : ℕ) (log seen own rest : List E) → log ≡ seen ++ rest → entries_by maker w log ≡ own → entries_by maker w seen ≡ own → entries_by maker w rest ≡ []
  entries_by-rest w log seen own rest e a b = append_cancel_left own (entries_by maker w rest) []
      (ap (λ xs. xs ++ entries_by maker w rest) (sym b) ∙ (sym (entries_by-append w seen rest) ∙ (ap (entries_by maker w) (sym e) ∙ (a ∙ sym (append-nil own)))))

module _ {E : Type 0} (durable : E → ℕ) where
  pub durable_grows : (xs ys : List E) → durable_of durable xs ≤ durable_of durable (xs ++ ys)
  durable_grows [] ys = omega arith
  durable_grows (x ∷ xs) ys = let h = durable_grows xs ys in omega arith

  pub durable_starts : (log seen : List E) → StartsWith log seen → durable_of durable seen ≤ durable_of durable log
  durable_starts log seen s = omega (arith, durable_grows seen s.0, ap (durable_of durable) s.1)

  pub durable_last : (xs : List E) (e : E) → durable e ≤ durable_of durable (xs ++ e ∷ [])
  durable_last [] e = omega arith
  durable_last (x ∷ xs) e = let h = durable_last xs e in omega arith

-- How many of a list pass a test.
use Rattle.std.proofs.Common.{◌≡◌, ◌+◌, ◌≤◌, Bool, true, false, cond, not, ◌&&◌, ◌||◌, List, [], ◌∷◌, length, refl, sym, ap, ◌∙◌, arith}
use Rattle.std.proofs.lemmas.Bool.{both_ways, false_from_ne_true}
use Rattle.std.specs.List.{AllByRecursion, filter}
use Rattle.std.specs.List.Sorted.{IsStrictlySortedBy}
use Rattle.clv_base.specs.declared.names.TxId.{TxId}
use Rattle.clv_base.specs.Orders.{tx_cmp, tx_same, tx_in}
use Rattle.clv_base.proofs.SameNames.{tx_true}
use Rattle.law_base.proofs.Names.{above_not_in}
use Rattle.law_base.proofs.Numbers.{one_if}

module _ {A : Type 0} where
  pub count-first : (q : A → Bool) (x : A) (xs : List A) → length (filter q (x ∷ xs)) ≡ one_if (q x) + length (filter q xs)
  count-first q x xs = at (q x)
    where
      at : (b : Bool) → length (cond b (x ∷ filter q xs) (filter q xs)) ≡ one_if b + length (filter q xs)
      at true = omega arith
      at false = omega arith

  -- a stricter test passes no more
  pub count-fewer : (p q : A → Bool) (xs : List A) → ((x : A) → p x ≡ true → q x ≡ true) → length (filter p xs) ≤ length (filter q xs)
  count-fewer p q [] h = omega arith
  count-fewer p q (x ∷ xs) h = let a = count-first p x xs in let b = count-first q x xs in let more = count-fewer p q xs h in let one = at (p x) (q x) (h x) in omega (arith, a, b, more, one)
    where
      at : (a b : Bool) → (a ≡ true → b ≡ true) → one_if a ≤ one_if b
      at true true h = omega arith
      at true false h = absurd (both_ways false refl (h refl))
      at false true h = omega arith
      at false false h = omega arith

  -- two tests that exclude each other pass together no more than a wider one
  pub count-apart : (p q r : A → Bool) (xs : List A) → ((x : A) → p x ≡ true → r x ≡ true) → ((x : A) → q x ≡ true → r x ≡ true) → ((x : A) → p x ≡ true → q x ≡ false)
      → length (filter p xs) + length (filter q xs) ≤ length (filter r xs)
  count-apart p q r [] f g h = omega arith
  count-apart p q r (x ∷ xs) f g h =
      let a = count-first p x xs in let b = count-first q x xs in let c = count-first r x xs in let more = count-apart p q r xs f g h in let one = at (p x) (q x) (r x) (f x) (g x) (h x) in omega (arith, a, b, c, more, one)
    where
      at : (a b c : Bool) → (a ≡ true → c ≡ true) → (b ≡ true → c ≡ true) → (a ≡ true → b ≡ false) → one_if a + one_if b ≤ one_if c
      at true true c f g h = absurd (both_ways true (h refl) refl)
      at true false true f g h = omega arith
      at true false false f g h = absurd (both_ways false refl (f refl))
      at false true true f g h = omega arith
      at false true false f g h = absurd (both_ways false refl (g refl))
      at false false true f g h = omega arith
      at false false false f g h = omega arith

-- of these a stricter test passes no more
pub count-within : {A : Type 0} (p q : A → Bool) (xs : List A) → AllByRecursion (λ x. p x ≡ true → q x ≡ true) xs → length (filter p xs) ≤ length (filter q xs)
count-within p q [] h = omega arith
count-within p q (x ∷ xs) h = let a = count-first p x xs in let b = count-first q x xs in let more = count-within p q xs h.1 in let one = at (p x) (q x) h.0 in omega (arith, a, b, more, one)
  where
    at : (a b : Bool) → (a ≡ true → b ≡ true) → one_if a ≤ one_if b
    at true true h = omega arith
    at true false h = absurd (both_ways false refl (h refl))
    at false true h = omega arith
    at false false h = omega arith

-- of those that are kept as many pass, where all that pass are kept
pub count-kept : {A : Type 0} (p keep : A → Bool) (xs : List A) → ((x : A) → p x ≡ true → keep x ≡ true) → length (filter p (filter keep xs)) ≡ length (filter p xs)
count-kept p keep [] h = refl
count-kept p keep (x ∷ xs) h = let a = count-first p x xs in let more = count-kept p keep xs h in let one = at (keep x) (h x) in omega (arith, a, more, one)
  where
    at : (b : Bool) → (p x ≡ true → b ≡ true) → length (filter p (cond b (x ∷ filter keep xs) (filter keep xs))) ≡ one_if (p x) + length (filter p (filter keep xs))
    at true h = count-first p x (filter keep xs)
    at false h = let none = ap one_if (false_from_ne_true (p x) (λ e. both_ways false refl (h e))) in omega (arith, none)

-- two tests of which one passes wherever a third does pass together no less than that
pub count-covered : {A : Type 0} (p q r : A → Bool) (xs : List A) → ((x : A) → r x ≡ true → p x ≡ false → q x ≡ true) → length (filter r xs) ≤ length (filter p xs) + length (filter q xs)
count-covered p q r [] h = omega arith
count-covered p q r (x ∷ xs) h =
    let a = count-first p x xs in let b = count-first q x xs in let c = count-first r x xs in let more = count-covered p q r xs h in let one = at (p x) (q x) (r x) (h x) in omega (arith, a, b, c, more, one)
  where
    at : (a b c : Bool) → (c ≡ true → a ≡ false → b ≡ true) → one_if c ≤ one_if a + one_if b
    at a b false h = omega arith
    at true b true h = omega arith
    at false true true h = omega arith
    at false false true h = absurd (both_ways false refl (h refl refl))

-- one that is put in front unless something holds
pub count-unless : {A : Type 0} (q : A → Bool) (b : Bool) (x : A) (xs : List A) → length (filter q (cond b xs (x ∷ xs))) ≡ one_if (not b && q x) + length (filter q xs)
count-unless q true x xs = omega arith
count-unless q false x xs = count-first q x xs

-- ---- names

-- one more name passes at most once
pub one_more : (t : TxId) (g : TxId → Bool) (xs : List TxId) → IsStrictlySortedBy tx_cmp xs → length (filter (λ x. tx_same x t || g x) xs) ≤ one_if (tx_in t xs) + length (filter g xs)
unfolding IsStrictlySortedBy
one_more t g [] s = omega arith
one_more t g (x ∷ xs) s =
    let a = count-first (λ y. tx_same y t || g y) x xs in let b = count-first g x xs in let more = one_more t g xs s.1 in let one = at (tx_same x t) (g x) (tx_in t xs) (λ e. ap (λ y. tx_in y xs) (sym (tx_true x t e)) ∙ above_not_in x xs s.0) in
    omega (arith, a, b, more, one)
  where
    at : (a b c : Bool) → (a ≡ true → c ≡ false) → one_if (a || b) + one_if c ≤ one_if (a || c) + one_if b
    at true b true h = absurd (both_ways true (h refl) refl)
    at true true false h = omega arith
    at true false false h = omega arith
    at false true true h = omega arith
    at false true false h = omega arith
    at false false true h = omega arith
    at false false false h = omega arith

-- and one that is new passes as often as it is there
pub one_new : (t : TxId) (g : TxId → Bool) (xs : List TxId) → g t ≡ false → one_if (tx_in t xs) + length (filter g xs) ≤ length (filter (λ x. tx_same x t || g x) xs)
one_new t g [] new = omega arith
one_new t g (x ∷ xs) new =
    let a = count-first (λ y. tx_same y t || g y) x xs in let b = count-first g x xs in let more = one_new t g xs new in
    let one = at (tx_same x t) (g x) (tx_in t xs) (λ e. ap g (tx_true x t e) ∙ new) in omega (arith, a, b, more, one)
  where
    at : (a b c : Bool) → (a ≡ true → b ≡ false) → one_if (a || c) + one_if b ≤ one_if (a || b) + one_if c
    at true true c h = absurd (both_ways true (h refl) refl)
    at true false true h = omega arith
    at true false false h = omega arith
    at false true true h = omega arith
    at false true false h = omega arith
    at false false true h = omega arith
    at false false false h = omega arith

abbrev pub in_set : List TxId → TxId → Bool
in_set set t = tx_in t set

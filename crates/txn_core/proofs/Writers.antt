-- How many transactions have a standing write.
use Rattle.std.proofs.Common.{◌≡◌, ◌+◌, ◌≤◌, Bool, true, false, cond, not, ◌&&◌, ◌||◌, List, [], ◌∷◌, length, refl, sym, ap, ◌∙◌, arith}
use Rattle.std.specs.List.{AllByRecursion, filter}
use Rattle.std.specs.List.Sorted.{IsStrictlySortedBy}
use Rattle.std.specs.declared.cmp.Ordering.{Ordering}
use Rattle.std.specs.declared.cmp.Ordering.TheVariants.{Less, Equal, Greater}
use Rattle.std.specs.Ordering.{is_eq, match_ordering}
use Rattle.clv_base.specs.declared.names.TxId.{TxId}
use Rattle.clv_base.specs.Orders.{tx_cmp, tx_same, tx_in, tx_insert}
use Rattle.clv_base.specs.Logs.{StandingUpdate, writers}
use Rattle.clv_base.proofs.SameNames.{tx_true}
use Rattle.law_base.proofs.Bools.{and_no, none_or}
use Rattle.law_base.proofs.Names.{above_not_in, tx_in-insert}
use Rattle.law_base.proofs.Numbers.{one_if}
use Rattle.law_base.proofs.Sets.{Rise, filter_rises, insert_rises, same_flip, same_list, tx_total, writers_rise}
use Rattle.law_base.proofs.Standing.{has_write}
use Rattle.txn_core.specs.Sound.{writers_by}
use Rattle.txn_core.proofs.Counting.{count-fewer, count-first, count-within, one_more, in_set}

-- ---- who they are

pub writers_in : (ws : List StandingUpdate) (t : TxId) → tx_in t (writers ws) ≡ has_write ws t
writers_in [] t = refl
writers_in (w ∷ ws) t = tx_in-insert w.tx t (writers ws) ∙ ap (λ b. b || tx_in t (writers ws)) (same_flip w.tx t) ∙ ap (λ b. tx_same t w.tx || b) (writers_in ws t)

passing_in : (f : TxId → Bool) (t : TxId) (xs : List TxId) → tx_in t (filter f xs) ≡ (f t && tx_in t xs)
passing_in f t [] = sym (and_no (f t))
passing_in f t (x ∷ xs) = at (f x) (tx_same x t) refl refl (passing_in f t xs)
  where
    at : (b c : Bool) → f x ≡ b → tx_same x t ≡ c → tx_in t (filter f xs) ≡ (f t && tx_in t xs) → tx_in t (cond b (x ∷ filter f xs) (filter f xs)) ≡ (f t && (c || tx_in t xs))
    at true true k s more = ap (λ b. b || tx_in t (filter f xs)) s ∙ sym (ap (λ b. b && true) (ap f (sym (tx_true x t s)) ∙ k))
    at true false k s more = ap (λ b. b || tx_in t (filter f xs)) s ∙ more
    at false true k s more = more ∙ ap (λ b. b && tx_in t xs) (ap f (sym (tx_true x t s)) ∙ k) ∙ sym (ap (λ b. b && true) (ap f (sym (tx_true x t s)) ∙ k))
    at false false k s more = more

under : (a b c : Bool) → (a ≡ true → b ≡ c) → (a && b) ≡ (a && c)
under true b c h = h refl
under false b c h = refl

-- those that pass are as many where the same ones of them have a write
pub writers_alike : (test : TxId → Bool) (ws vs : List StandingUpdate) → ((t : TxId) → test t ≡ true → has_write ws t ≡ has_write vs t) → writers_by test ws ≡ writers_by test vs
writers_alike test ws vs h =
    ap length (same_list (filter test (writers ws)) (filter test (writers vs)) (filter_rises test (writers ws) (writers_rise ws)) (filter_rises test (writers vs) (writers_rise vs))
    (λ t. passing_in test t (writers ws) ∙ ap (λ b. test t && b) (writers_in ws t) ∙ under (test t) (has_write ws t) (has_write vs t) (h t)
    ∙ sym (passing_in test t (writers vs) ∙ ap (λ b. test t && b) (writers_in vs t))))

-- ---- those of a set

-- of a set whose members rise they are those of whom a write stands
pub wrote_at_most : (set : List TxId) (ws : List StandingUpdate) → Rise set → length (filter (has_write ws) set) ≤ writers_by (in_set set) ws
wrote_at_most set ws s =
    let same : length (filter (has_write ws) set) ≡ writers_by (in_set set) ws = ap length (same_list (filter (has_write ws) set) (filter (in_set set) (writers ws)) (filter_rises (has_write ws) set s) (filter_rises (in_set set) (writers ws) (writers_rise ws))
    (λ t. passing_in (has_write ws) t set ∙ turned (has_write ws t) (tx_in t set) ∙ sym (passing_in (in_set set) t (writers ws) ∙ ap (λ b. tx_in t set && b) (writers_in ws t)))) in
    omega (arith, same)
  where
    turned : (a b : Bool) → (a && b) ≡ (b && a)
    turned true true = refl
    turned true false = refl
    turned false true = refl
    turned false false = refl

writers_wrote : (set : List TxId) (ws : List StandingUpdate) → writers_by (in_set set) ws ≤ length (filter (has_write ws) set)
writers_wrote [] ws = let e = none (writers ws) in omega (arith, e)
  where
    none : (xs : List TxId) → length (filter (in_set []) xs) ≡ 0
    none [] = refl
    none (x ∷ xs) = none xs
writers_wrote (t ∷ ts) ws =
    let more = writers_wrote ts ws in let one = one_more t (in_set ts) (writers ws) (writers_rise ws) in
    let same = count-fewer (in_set (t ∷ ts)) (λ x. tx_same x t || in_set ts x) (writers ws) (λ x h. sym (ap (λ b. b || in_set ts x) (same_flip t x)) ∙ h) in
    let own = ap one_if (writers_in ws t) in let first = count-first (has_write ws) t ts in
    omega (arith, more, one, same, own, first)

-- ---- a write more

above_less : (t x : TxId) (xs : List TxId) → tx_cmp t x ≡ Less → AllByRecursion (λ y. tx_cmp x y ≡ Less) xs → AllByRecursion (λ y. tx_cmp t y ≡ Less) xs
above_less t x [] l a = tt
above_less t x (y ∷ ys) l a = (tx_total.trans t x y l a.0, above_less t x ys l a.1)

-- one more name counts once, where it is new and passes
pub count-insert : (f : TxId → Bool) (t : TxId) (xs : List TxId) → Rise xs → length (filter f (tx_insert t xs)) ≡ length (filter f xs) + one_if (not (tx_in t xs) && f t)
unfolding IsStrictlySortedBy
count-insert f t [] s = let a = count-first f t [] in omega (arith, a)
count-insert f t (x ∷ xs) s = at (tx_cmp t x) refl (count-insert f t xs s.1)
  where
    at : (o : Ordering) → tx_cmp t x ≡ o → length (filter f (tx_insert t xs)) ≡ length (filter f xs) + one_if (not (tx_in t xs) && f t)
        → length (filter f (match_ordering o (t ∷ x ∷ xs) (x ∷ xs) (x ∷ tx_insert t xs))) ≡ length (filter f (x ∷ xs)) + one_if (not (tx_in t (x ∷ xs)) && f t)
    at Less o more =
        let a = count-first f t (x ∷ xs) in
        let new = ap (λ b. one_if (not b && f t)) (above_not_in t (x ∷ xs) (o, above_less t x xs o s.0)) in omega (arith, a, new)
    at Equal o more = let there = ap (λ b. one_if (not (b || tx_in t xs) && f t)) (same_flip x t ∙ ap is_eq o) in omega (arith, there)
    at Greater o more =
        let a = count-first f x (tx_insert t xs) in let b = count-first f x xs in
        let other = ap (λ b. one_if (not (b || tx_in t xs) && f t)) (same_flip x t ∙ ap is_eq o) in omega (arith, a, b, more, other)

pub writers_one : (test : TxId → Bool) (w : StandingUpdate) (ws : List StandingUpdate) → writers_by test (w ∷ ws) ≡ writers_by test ws + one_if (not (has_write ws w.tx) && test w.tx)
writers_one test w ws = let a = count-insert test w.tx (writers ws) (writers_rise ws) in let b = ap (λ c. one_if (not c && test w.tx)) (writers_in ws w.tx) in omega (arith, a, b)

-- ---- a write fewer

-- of one of whom none stands any more
pub writers_gone : (test : TxId → Bool) (t : TxId) (ws vs : List StandingUpdate) → test t ≡ true → has_write ws t ≡ true → has_write vs t ≡ false → ((u : TxId) → tx_same t u ≡ false → has_write vs u ≡ has_write ws u)
    → writers_by test vs + 1 ≡ writers_by test ws
writers_gone test t ws vs own stood gone others =
    let a = count-insert test t (writers vs) (writers_rise vs) in
    let new = ap (λ b. one_if (not b && test t)) (writers_in vs t ∙ gone) in let passes = ap one_if own in
    let same = ap (λ xs. length (filter test xs)) (same_list (tx_insert t (writers vs)) (writers ws) (insert_rises t (writers vs) (writers_rise vs)) (writers_rise ws)
    (λ u. tx_in-insert t u (writers vs) ∙ ap (λ b. tx_same t u || b) (writers_in vs u) ∙ at u (tx_same t u) refl ∙ sym (writers_in ws u))) in
    omega (arith, a, new, passes, same)
  where
    at : (u : TxId) (b : Bool) → tx_same t u ≡ b → (b || has_write vs u) ≡ has_write ws u
    at u true s = sym (ap (has_write ws) (sym (tx_true t u s)) ∙ stood)
    at u false s = others u s

-- ---- those of others

writers_all : (P : TxId → Type 0) (ws : List StandingUpdate) → AllByRecursion (λ w. P w.tx) ws → AllByRecursion P (writers ws)
writers_all P [] a = tt
writers_all P (w ∷ ws) a = with_one w.tx (writers ws) a.0 (writers_all P ws a.1)
  where
    with_one : (t : TxId) (xs : List TxId) → P t → AllByRecursion P xs → AllByRecursion P (tx_insert t xs)
    with_one t [] h a = (h, tt)
    with_one t (x ∷ xs) h a = at (tx_cmp t x) (with_one t xs h a.1)
      where
        at : (o : Ordering) → AllByRecursion P (tx_insert t xs) → AllByRecursion P (match_ordering o (t ∷ x ∷ xs) (x ∷ xs) (x ∷ tx_insert t xs))
        at Less more = (h, a)
        at Equal more = a
        at Greater more = (a.0, more)

pub none_own : (t : TxId) (ws : List StandingUpdate) → has_write ws t ≡ false → AllByRecursion (λ w. tx_same t w.tx ≡ false) ws
none_own t [] e = tt
none_own t (w ∷ ws) e = let p = none_or (tx_same t w.tx) (has_write ws t) e in (p.0, none_own t ws p.1)

-- one of whom nothing stands doesn't count
pub writers_of_others : (tx : TxId) (p q : TxId → Bool) (ws : List StandingUpdate) → has_write ws tx ≡ false → ((t : TxId) → tx_same tx t ≡ false → p t ≡ true → q t ≡ true) → writers_by p ws ≤ writers_by q ws
writers_of_others tx p q ws e h = count-within p q (writers ws) (all_by (writers ws) (writers_all (λ t. tx_same tx t ≡ false) ws (none_own tx ws e)))
  where
    all_by : (xs : List TxId) → AllByRecursion (λ t. tx_same tx t ≡ false) xs → AllByRecursion (λ t. p t ≡ true → q t ≡ true) xs
    all_by [] a = tt
    all_by (x ∷ xs) a = (h x a.0, all_by xs a.1)

-- The restored pairs: whose they are, that they rise, and how many one transaction has.
use Rattle.std.proofs.Common.{◌≡◌, ◌≤◌, ◌+◌, ⊎_elim, refl, ap, ◌∙◌, ℕ, suc, Bool, true, false, cond, not, ◌&&◌, List, [], ◌∷◌, ◌++◌, map, length, Option, Some, None, nat_le, nat_lt, arith}
use Rattle.std.specs.List.{AllByRecursion, filter, list_all}
use Rattle.std.specs.List.Sorted.{IsStrictlySortedBy}
use Rattle.std.proofs.lemmas.Bool.{both_ways, cases_Bool, cond_both, and_parts}
use Rattle.std.proofs.lemmas.Bool.Decides.{nat_tests}
use Rattle.std.proofs.lemmas.List.Kept.{IsStrictlySortedBy-filter}
use Rattle.std.specs.declared.cmp.Ordering.{Ordering}
use Rattle.std.specs.declared.cmp.Ordering.TheVariants.{Less, Equal, Greater}
use Rattle.std.specs.Ordering.{is_eq, is_lt, ordering_then}
use Rattle.clv_base.specs.declared.names.TxId.{TxId}
use Rattle.clv_base.specs.declared.logs.LogRecord.{LogRecord}
use Rattle.clv_base.specs.declared.logs.LogRecord.TheVariants.{Update, Clr, Prepare, Commit, Abort, End, Restart, Add, Unadd, Forgotten, Check}
use Rattle.clv_base.specs.Orders.{tx_cmp, tx_same, tx_insert, pair_cmp}
use Rattle.clv_base.specs.Logs.{committed_in, prepare_of}
use Rattle.clv_base.specs.Facts.{predecessors_of}
use Rattle.clv_base.specs.FileRules.{has_spelling, tx_has_spelling, txs_rise}
use Rattle.clv_base.specs.Restarts.{pairs_of_listed, restored_pairs}
use Rattle.clv_base.proofs.SameNames.{tx_true, tx_self}
use Rattle.txn_core.specs.Sound.{FewUndecided}
use Rattle.law_base.proofs.Names.{Rise as Rises}
use Rattle.law_base.proofs.Sets.{AllAbove as Above, above_more, tx_total}
use Rattle.law_base.proofs.Lists.{all_append, all_mono, filter-few as filter_shorter}
use Rattle.law_base.proofs.Bools.{less_is}
use Rattle.law_base.proofs.Logs.{of_listed, restored_have}
use Rattle.law_base.proofs.Rising.{length-insert_key}

-- ---- what a PREPARE lists rises, and is not too long

IsListed : List TxId → Type 0
IsListed ps = (length ps ≤ 1024) × (txs_rise ps ≡ true)

IsListedAt : Option (ℕ × List TxId) → Type 0
IsListedAt None = Unit {0}
IsListedAt (Some p) = IsListed p.1

short : (n : ℕ) → nat_le n 1024 ≡ true → n ≤ 1024
short n h = grind (arith, nat_tests, h)

spelled_list : (tx : TxId) (home : ℕ) (ps : List TxId) → has_spelling (Prepare tx home ps) ≡ true → IsListed ps
unfolding IsListed
spelled_list tx home ps h =
    let a = and_parts (tx_has_spelling tx && nat_lt home 16 && nat_le (length ps) 1024 && list_all tx_has_spelling ps) (txs_rise ps) h in
    let b = and_parts (tx_has_spelling tx && nat_lt home 16 && nat_le (length ps) 1024) (list_all tx_has_spelling ps) a.0 in
    let c = and_parts (tx_has_spelling tx && nat_lt home 16) (nat_le (length ps) 1024) b.0 in
    (short (length ps) c.1, a.1)

listed_at : (log : List LogRecord) (t : TxId) → list_all has_spelling log ≡ true → IsListedAt (prepare_of log t)
unfolding IsListedAt
listed_at [] t h = tt
listed_at (Prepare tx home ps ∷ rs) t h =
    let two = and_parts (has_spelling (Prepare tx home ps)) (list_all has_spelling rs) h in
    cond_both (tx_same t tx) (Some (home, ps)) (prepare_of rs t) IsListedAt (λ e. spelled_list tx home ps two.0) (λ e. listed_at rs t two.1)
listed_at (Update tx k b a ∷ rs) t h = listed_at rs t (and_parts (has_spelling (Update tx k b a)) (list_all has_spelling rs) h).1
listed_at (Clr tx u k a ∷ rs) t h = listed_at rs t (and_parts (has_spelling (Clr tx u k a)) (list_all has_spelling rs) h).1
listed_at (Commit tx ps ∷ rs) t h = listed_at rs t (and_parts (has_spelling (Commit tx ps)) (list_all has_spelling rs) h).1
listed_at (Abort tx ∷ rs) t h = listed_at rs t (and_parts (has_spelling (Abort tx)) (list_all has_spelling rs) h).1
listed_at (End tx ∷ rs) t h = listed_at rs t (and_parts (has_spelling (End tx)) (list_all has_spelling rs) h).1
listed_at (Restart run epoch ∷ rs) t h = listed_at rs t (and_parts (has_spelling (Restart run epoch)) (list_all has_spelling rs) h).1
listed_at (Add tx k by ∷ rs) t h = listed_at rs t (and_parts (has_spelling (Add tx k by)) (list_all has_spelling rs) h).1
listed_at (Unadd tx u k by ∷ rs) t h = listed_at rs t (and_parts (has_spelling (Unadd tx u k by)) (list_all has_spelling rs) h).1
listed_at (Forgotten ∷ rs) t h = listed_at rs t (and_parts (has_spelling Forgotten) (list_all has_spelling rs) h).1
listed_at (Check run' epoch' upto base ∷ rs) t h = listed_at rs t (and_parts (has_spelling (Check run' epoch' upto base)) (list_all has_spelling rs) h).1

-- ---- they rise

above_first : (t u : TxId) (us : List TxId) → tx_cmp t u ≡ Less → Above u us → Above t (u ∷ us)
above_first t u us below a = (below, above_more t u us below a)

rises_by : (ts : List TxId) → txs_rise ts ≡ true → Rises ts
unfolding IsStrictlySortedBy
rises_by [] h = tt
rises_by (t ∷ []) h = (tt, tt)
rises_by (t ∷ u ∷ us) h =
    let two = and_parts (is_lt (tx_cmp t u)) (txs_rise (u ∷ us)) h in
    let more = rises_by (u ∷ us) two.1 in
    (above_first t u us (less_is (tx_cmp t u) two.0) more.0, more)

abbrev PairsRise : List (TxId × TxId) → Type 0
PairsRise ps = IsStrictlySortedBy pair_cmp ps

sorted_append : (xs ys : List (TxId × TxId)) → PairsRise xs → PairsRise ys → AllByRecursion (λ x. AllByRecursion (λ y. pair_cmp x y ≡ Less) ys) xs → PairsRise (xs ++ ys)
unfolding IsStrictlySortedBy
sorted_append [] ys s r a = r
sorted_append (x ∷ xs) ys s r a = (all_append (λ y. pair_cmp x y ≡ Less) xs ys s.0 a.0, sorted_append xs ys s.1 r a.1)

same_equal : (t : TxId) → tx_cmp t t ≡ Equal
same_equal t = at (tx_cmp t t) (tx_self t)
  where
    at : (o : Ordering) → is_eq o ≡ true → o ≡ Equal
    at Less e = absurd (both_ways false refl e)
    at Equal e = refl
    at Greater e = absurd (both_ways false refl e)

ties_above : (t q : TxId) (qs : List TxId) → Above q qs → AllByRecursion (λ y. pair_cmp (t, q) y ≡ Less) (map (λ p. (t, p)) qs)
ties_above t q [] a = tt
ties_above t q (p ∷ ps) a = (ap (λ o. ordering_then o (tx_cmp q p)) (same_equal t) ∙ a.0, ties_above t q ps a.1)

ties_rise : (t : TxId) (qs : List TxId) → Rises qs → PairsRise (map (λ q. (t, q)) qs)
unfolding IsStrictlySortedBy
ties_rise t [] s = tt
ties_rise t (q ∷ qs) s = (ties_above t q qs s.0, ties_rise t qs s.1)

group_rises : (log : List LogRecord) (t : TxId) (o : Option (ℕ × List TxId)) → IsListedAt o → PairsRise (pairs_of_listed log t o)
unfolding IsStrictlySortedBy IsListedAt IsListed
group_rises log t None h = tt
group_rises log t (Some p) h =
    ties_rise t (filter (λ q. not (committed_in log q)) p.1) (IsStrictlySortedBy-filter tx_cmp (λ q. not (committed_in log q)) p.1 (rises_by p.1 h.1))

below_all : (t : TxId) (q : TxId) (ps : List (TxId × TxId)) → AllByRecursion (λ p. tx_cmp t p.0 ≡ Less) ps → AllByRecursion (λ y. pair_cmp (t, q) y ≡ Less) ps
below_all t q [] a = tt
below_all t q (p ∷ ps) a = (ap (λ o. ordering_then o (tx_cmp q p.1)) a.0, below_all t q ps a.1)

ties_below : (t : TxId) (qs : List TxId) (ps : List (TxId × TxId)) → AllByRecursion (λ p. tx_cmp t p.0 ≡ Less) ps → AllByRecursion (λ x. AllByRecursion (λ y. pair_cmp x y ≡ Less) ps) (map (λ q. (t, q)) qs)
ties_below t [] ps a = tt
ties_below t (q ∷ qs) ps a = (below_all t q ps a, ties_below t qs ps a)

group_below : (log : List LogRecord) (t : TxId) (o : Option (ℕ × List TxId)) (ps : List (TxId × TxId)) → AllByRecursion (λ p. tx_cmp t p.0 ≡ Less) ps
    → AllByRecursion (λ x. AllByRecursion (λ y. pair_cmp x y ≡ Less) ps) (pairs_of_listed log t o)
group_below log t None ps a = tt
group_below log t (Some p) ps a = ties_below t (filter (λ q. not (committed_in log q)) p.1) ps a

pub restored_rise : (log : List LogRecord) → list_all has_spelling log ≡ true → (ts : List TxId) → Rises ts → PairsRise (restored_pairs log ts)
unfolding IsStrictlySortedBy
restored_rise log h [] s = tt
restored_rise log h (t ∷ ts) s =
    sorted_append (pairs_of_listed log t (prepare_of log t)) (restored_pairs log ts) (group_rises log t (prepare_of log t) (listed_at log t h)) (restored_rise log h ts s.1)
    (group_below log t (prepare_of log t) (restored_pairs log ts) (restored_have (λ u. tx_cmp t u ≡ Less) log ts s.0))

-- ---- how many one transaction has

abbrev own : TxId → TxId × TxId → Bool
own t p = tx_same t p.0

abbrev pairs_with : TxId → List (TxId × TxId) → ℕ
pairs_with t ps = length (filter (own t) ps)

preds_at_most : (ps : List (TxId × TxId)) (t : TxId) → length (predecessors_of ps t) ≤ pairs_with t ps
preds_at_most [] t = omega arith
preds_at_most (p ∷ ps) t = at (tx_same t p.0) (preds_at_most ps t) (length-insert_key tx_total p.1 (predecessors_of ps t))
  where
    at : (b : Bool) → length (predecessors_of ps t) ≤ pairs_with t ps → length (tx_insert p.1 (predecessors_of ps t)) ≤ length (predecessors_of ps t) + 1
        → length {A = TxId} (elim b [ true ↦ tx_insert p.1 (predecessors_of ps t) | false ↦ predecessors_of ps t ]) ≤ length (cond b (p ∷ filter (own t) ps) (filter (own t) ps))
    at true more one = omega (arith, more, one)
    at false more one = more

with_append : (t : TxId) (xs ys : List (TxId × TxId)) → pairs_with t (xs ++ ys) ≡ pairs_with t xs + pairs_with t ys
with_append t [] ys = omega arith
with_append t (x ∷ xs) ys = at (own t x) (with_append t xs ys)
  where
    at : (b : Bool) → pairs_with t (xs ++ ys) ≡ pairs_with t xs + pairs_with t ys
        → length (cond b (x ∷ filter (own t) (xs ++ ys)) (filter (own t) (xs ++ ys))) ≡ length (cond b (x ∷ filter (own t) xs) (filter (own t) xs)) + length (filter (own t) ys)
    at true more = omega (arith, more)
    at false more = more

none_own : (t : TxId) (ps : List (TxId × TxId)) → AllByRecursion (λ p. tx_same t p.0 ≡ false) ps → pairs_with t ps ≡ 0
none_own t [] a = refl
none_own t (p ∷ ps) a = ap (λ b. length (cond b (p ∷ filter (own t) ps) (filter (own t) ps))) a.0 ∙ none_own t ps a.1

ties_long : (t : TxId) (qs : List TxId) → length {A = TxId × TxId} (map (λ q. (t, q)) qs) ≡ length qs
ties_long t [] = refl
ties_long t (q ∷ qs) = ap suc (ties_long t qs)

group_short : (log : List LogRecord) (t u : TxId) (o : Option (ℕ × List TxId)) → IsListedAt o → pairs_with u (pairs_of_listed log t o) ≤ 1024
unfolding IsListedAt IsListed
group_short log t u None h = omega arith
group_short log t u (Some p) h =
    let a = filter_shorter (own u) (map (λ q. (t, q)) (filter (λ q. not (committed_in log q)) p.1)) in
    let b = ties_long t (filter (λ q. not (committed_in log q)) p.1) in
    let c = filter_shorter (λ q. not (committed_in log q)) p.1 in
    omega (arith, a, b, c, h.0)

less_other : (t u : TxId) → tx_cmp t u ≡ Less → tx_same t u ≡ false
less_other t u l = ap is_eq l

pub restored_few : (log : List LogRecord) → list_all has_spelling log ≡ true → (ts : List TxId) → Rises ts → (u : TxId) → pairs_with u (restored_pairs log ts) ≤ 1024
unfolding IsStrictlySortedBy
restored_few log h [] s u = omega arith
restored_few log h (t ∷ ts) s u = ⊎_elim same (other (restored_few log h ts s.1 u)) (cases_Bool (tx_same u t))
  where
    both : pairs_with u (restored_pairs log (t ∷ ts)) ≡ pairs_with u (pairs_of_listed log t (prepare_of log t)) + pairs_with u (restored_pairs log ts)
    both = with_append u (pairs_of_listed log t (prepare_of log t)) (restored_pairs log ts)

    group : pairs_with u (pairs_of_listed log t (prepare_of log t)) ≤ 1024
    group = group_short log t u (prepare_of log t) (listed_at log t h)

    same : tx_same u t ≡ true → pairs_with u (restored_pairs log (t ∷ ts)) ≤ 1024
    same e =
        let none = none_own u (restored_pairs log ts) (restored_have (λ v. tx_same u v ≡ false) log ts (all_mono (λ v. tx_cmp t v ≡ Less) (λ v. tx_same u v ≡ false) (λ v l. ap (λ z. tx_same z v) (tx_true u t e) ∙ less_other t v l) ts s.0)) in
        omega (arith, both, group, none)

    other : pairs_with u (restored_pairs log ts) ≤ 1024 → tx_same u t ≡ false → pairs_with u (restored_pairs log (t ∷ ts)) ≤ 1024
    other more e =
        let none = none_own u (pairs_of_listed log t (prepare_of log t)) (of_listed (λ v. tx_same u v ≡ false) log t (prepare_of log t) e) in
        omega (arith, both, none, more)

pub few_restored : (log : List LogRecord) → list_all has_spelling log ≡ true → (ts : List TxId) → Rises ts → FewUndecided log (restored_pairs log ts)
few_restored log h ts s u =
    let a = filter_shorter (λ p. not (committed_in log p)) (predecessors_of (restored_pairs log ts) u) in
    let b = preds_at_most (restored_pairs log ts) u in
    let c = restored_few log h ts s u in
    omega (arith, a, b, c)

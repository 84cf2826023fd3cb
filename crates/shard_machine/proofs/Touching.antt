-- Touched shards that fit, as the core wants them.
use Rattle.std.proofs.Common.{◌≡◌, sym, ap, ℕ, ◌<◌, ⊎_elim, eqb-true, true, ◌&&◌, cond, ◌==◌, List, [], ◌∷◌, map, nat_lt}
use Rattle.std.proofs.lemmas.Bool.{and_parts, or_cases, or_left, ltb-true, eq-eqb}
use Rattle.std.specs.List.{AllByRecursion, list_all, list_any}
use Rattle.std.specs.List.Sorted.{IsStrictlySortedBy}
use Rattle.std.specs.Ordering.{nat_cmp}
use Rattle.std.specs.declared.cmp.Ordering.TheVariants.{Less, Equal, Greater}
use Rattle.std.proofs.lemmas.Cmp.{nat_cmp_total}
use Rattle.clv_base.specs.FileRules.{numbers_rise}
use Rattle.clv_base.specs.Orders.{nat_in}
use Rattle.machine_calls.specs.Events.{touched_fit}
use Rattle.clv_base.proofs.SameNames.{or_right}

above_more : (a b : ℕ) (ns : List ℕ) → nat_cmp a b ≡ Less → AllByRecursion (λ m. nat_cmp b m ≡ Less) ns → AllByRecursion (λ m. nat_cmp a m ≡ Less) ns
above_more a b [] l h = tt
above_more a b (x ∷ xs) l h = (nat_cmp_total.trans a b x l h.0, above_more a b xs l h.1)

rising : (ns : List ℕ) → numbers_rise ns ≡ true → IsStrictlySortedBy nat_cmp ns
unfolding IsStrictlySortedBy
rising [] h = tt
rising (n ∷ []) h = (tt, tt)
rising (n ∷ m ∷ ns) h =
    let two = and_parts (nat_lt n m) (numbers_rise (m ∷ ns)) h in let more = rising (m ∷ ns) two.1 in let less : nat_cmp n m ≡ Less = below n m two.0 in ((less, above_more n m ns less more.0), more)
  where
    below : (a b : ℕ) → nat_lt a b ≡ true → nat_cmp a b ≡ Less
    below a b e = ap (λ t. cond t Less (cond (a == b) Equal Greater)) e

low : (ts : List (ℕ × ℕ)) → list_all (λ t. nat_lt t.0 16) ts ≡ true → AllByRecursion (λ t. t.0 < 16) ts
low [] h = tt
low (t ∷ ts) h = let two = and_parts (nat_lt t.0 16) (list_all (λ t. nat_lt t.0 16) ts) h in (ltb-true t.0 16 two.0, low ts two.1)

own : (n : ℕ) (ts : List (ℕ × ℕ)) → list_any (λ t. t.0 == n) ts ≡ true → nat_in n (map (λ t. t.0) ts) ≡ true
own n [] h = h
own n (t ∷ ts) h =
    ⊎_elim (λ (i : (t.0 == n) ≡ true). or_left (n == t.0) (nat_in n (map (λ t. t.0) ts)) (eq-eqb n t.0 (sym (eqb-true t.0 n i)))) (λ (i : list_any (λ t. t.0 == n) ts ≡ true). or_right (n == t.0) (nat_in n (map (λ t. t.0) ts)) (own n ts i)) (or_cases (t.0 == n) (list_any (λ t. t.0 == n) ts) h)

pub record AreTouched (shard : ℕ) (ts : List (ℕ × ℕ)) : Type 0 where
  pub rising : IsStrictlySortedBy nat_cmp (map (λ t. t.0) ts)
  pub low : AllByRecursion (λ t. t.0 < 16) ts
  pub own : nat_in shard (map (λ t. t.0) ts) ≡ true

pub touched_as : (shard : ℕ) (ts : List (ℕ × ℕ)) → touched_fit shard ts ≡ true → AreTouched shard ts
touched_as shard ts h =
    let two = and_parts (numbers_rise (map (λ t. t.0) ts) && list_all (λ t. nat_lt t.0 16) ts) (list_any (λ t. t.0 == shard) ts) h in
    let one = and_parts (numbers_rise (map (λ t. t.0) ts)) (list_all (λ t. nat_lt t.0 16) ts) two.0 in
    record { rising = rising (map (λ t. t.0) ts) one.0; low = low ts one.1; own = own shard ts two.1 }

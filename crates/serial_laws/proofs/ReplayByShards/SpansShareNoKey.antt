-- The spans of shards have no key in common.
use Rattle.std.proofs.Common.{◌≡◌, ℕ, zero, suc, pred, ◌<◌, ◌≤◌, ◌⊎◌, inl, inr, ⊎_elim, Bool, true, false, cond, ◌&&◌, List, [], ◌∷◌, length, Option, Some, None, nat_lt, nat_le, refl, sym, subst, arith}
use Rattle.std.proofs.lemmas.Bool.{both_ways, cases_order, ltb-true, leb-true, le-leb, and_parts, and_from}
use Rattle.clv_base.specs.Shards.{first_key, lies_within, in_span, shard_count, are_splits}
use Rattle.clv_base.proofs.Spans.{start, span_is, RisesFrom, Rises, rises, others_rise as others}

-- ---- splits rise

beyond : (before : ℕ) (ss : List ℕ) (m : ℕ) → RisesFrom before ss → m < length ss → before < first_key ss m
beyond before [] m r l = absurd (omega (arith, l))
beyond before (s ∷ ss) zero r l = r.0
beyond before (s ∷ ss) (suc m) r l = let a = beyond s ss m r.1 (omega (arith, l)) in let b = r.0 in omega arith

upwards : (ss : List ℕ) (n m : ℕ) → Rises ss → n ≤ m → m < length ss → first_key ss n ≤ first_key ss m
upwards [] n m r l i = absurd (omega (arith, i))
upwards (s ∷ ss) zero zero r l i = omega arith
upwards (s ∷ ss) zero (suc m) r l i = let a = beyond s ss m r (omega (arith, i)) in omega arith
upwards (s ∷ ss) (suc n) zero r l i = absurd (omega (arith, l))
upwards (s ∷ ss) (suc n) (suc m) r l i = upwards ss n m (others s ss r) (omega (arith, l)) (omega (arith, i))

-- ---- a key within

within : (lo end k : ℕ) (b : Bool) → nat_lt lo end ≡ b → lies_within (cond b (Some (lo, pred end)) None) k ≡ true → (lo ≤ k) × (k < end)
within lo zero k true l e = absurd (omega (arith, ltb-true lo zero l))
within lo (suc end) k true l e = let p = and_parts (nat_le lo k) (nat_le k end) e in let h = leb-true k end p.1 in (leb-true lo k p.0, omega arith)
within lo end k false l e = absurd (both_ways false refl e)

bounds : (splits : List ℕ) (n k : ℕ) → in_span splits n k ≡ true → (start splits n ≤ k) × (k < first_key splits n)
bounds splits n k e =
    within (start splits n) (first_key splits n) k (nat_lt (start splits n) (first_key splits n)) refl (subst (λ o. lies_within o k ≡ true) (span_is splits n) e)

below : (splits : List ℕ) (n j k : ℕ) → Rises splits → n < j → j < shard_count splits → in_span splits n k ≡ true → in_span splits j k ≡ true → ⊥
below splits n zero k r l i e f = absurd (omega (arith, l))
below splits n (suc m) k r l i e f =
    let a = bounds splits n k e in
    let b = bounds splits (suc m) k f in
    let u = upwards splits n m r (omega (arith, l)) (omega (arith, i)) in
    let p = a.1 in
    let q = b.0 in
    omega arith

-- the keys of a shard lie below those of a later one
pub follow : (splits : List ℕ) (n j a b : ℕ) → are_splits splits ≡ true → n < j → j < shard_count splits → in_span splits n a ≡ true → in_span splits j b ≡ true → a < b
follow splits n zero a b s l i e f = absurd (omega (arith, l))
follow splits n (suc m) a b s l i e f =
    let p = (bounds splits n a e).1 in
    let q = (bounds splits (suc m) b f).0 in
    let u = upwards splits n m (rises splits s) (omega (arith, l)) (omega (arith, i)) in
    omega (arith, p, q, u)

pub one_shard : (splits : List ℕ) (n j k : ℕ) → are_splits splits ≡ true → n < shard_count splits → j < shard_count splits → in_span splits n k ≡ true → in_span splits j k ≡ true → n ≡ j
one_shard splits n j k s a b e f =
    ⊎_elim (λ q. q) (λ q. ⊎_elim (λ l. absurd (below splits n j k (rises splits s) l b e f)) (λ l. absurd (below splits j n k (rises splits s) l a f e)) q) (cases_order n j)

-- between two keys of a span all keys are its
pub between : (o : Option (ℕ × ℕ)) (lo hi k : ℕ) → lies_within o lo ≡ true → lies_within o hi ≡ true → (nat_le lo k && nat_le k hi) ≡ true → lies_within o k ≡ true
between None lo hi k e f g = absurd (both_ways false refl e)
between (Some p) lo hi k e f g =
    let a = leb-true p.0 lo (and_parts (nat_le p.0 lo) (nat_le lo p.1) e).0 in
    let b = leb-true hi p.1 (and_parts (nat_le p.0 hi) (nat_le hi p.1) f).1 in
    let c = and_parts (nat_le lo k) (nat_le k hi) g in
    let d = leb-true lo k c.0 in
    let h = leb-true k hi c.1 in
    and_from (nat_le p.0 k) (nat_le k p.1) (le-leb p.0 k (omega arith)) (le-leb k p.1 (omega arith))

-- a key is one shard's, or no shard's
pub whose : (splits : List ℕ) (k count : ℕ) → ((n : ℕ) × (n < count) × (in_span splits n k ≡ true)) ⊎ ((n : ℕ) → n < count → in_span splits n k ≡ false)
whose splits k zero = inr (λ n l. absurd (omega (arith, l)))
whose splits k (suc c) = at (in_span splits c k) refl (whose splits k c)
  where
    last : in_span splits c k ≡ false → ((n : ℕ) → n < c → in_span splits n k ≡ false) → (n : ℕ) → n < suc c → in_span splits n k ≡ false
    last e h n l = ⊎_elim (λ q. subst (λ m. in_span splits m k ≡ false) (sym q) e) (λ q. ⊎_elim (λ m. h n m) (λ m. absurd (omega (arith, l, m))) q) (cases_order n c)

    at : (b : Bool) → in_span splits c k ≡ b → ((n : ℕ) × (n < c) × (in_span splits n k ≡ true)) ⊎ ((n : ℕ) → n < c → in_span splits n k ≡ false)
        → ((n : ℕ) × (n < suc c) × (in_span splits n k ≡ true)) ⊎ ((n : ℕ) → n < suc c → in_span splits n k ≡ false)
    at true e o = inl (c, omega arith, e)
    at false e (inl (n, l, f)) = inl (n, omega (arith, l), f)
    at false e (inr h) = inr (last e h)

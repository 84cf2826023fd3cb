-- The records between two keys, block by block.
use Rattle.std.proofs.Common.{◌≡◌, ℕ, zero, suc, ◌-◌, ◌<◌, ◌≤◌, Bool, true, false, cond, ◌&&◌, nat_le, List, [], ◌∷◌, ◌++◌, length, length-drop, get_or, take, drop, refl, sym, ap, subst, ◌∙◌, arith}
use Rattle.std.proofs.lemmas.Bool.{leb-true, lt-leb}
use Rattle.std.proofs.Math.Seq.{take-length}
use Rattle.std.specs.Ordering.{nat_cmp}
use Rattle.std.specs.FinMap.{is_sorted}
use Rattle.clv_base.specs.Needs.{Records, records_between}
use Rattle.ordered_store.proofs.Rising.{rises_from}
use Rattle.ordered_store.specs.declared.block.Block.{Block}
use Rattle.ordered_store.specs.Records.{Under, Begins, Starts}
use Rattle.ordered_store.specs.Blocks.{flat, Chain, Chained, reached, slot_of}
use Rattle.ordered_store.proofs.Chains.{Least, begun, flat_least}

pub whole_rest : (bs : List Block) (i : ℕ) → take (length bs - i) (drop i bs) ≡ drop i bs
whole_rest bs i = ap (λ n. take n (drop i bs)) (sym (length-drop i bs)) ∙ take-length (drop i bs)

pub nothing_there : (xs : List Block) (i : ℕ) → length xs ≤ i → drop i xs ≡ []
nothing_there [] zero n = refl
nothing_there [] (suc i) n = refl
nothing_there (x ∷ xs) zero n = absurd (omega arith)
nothing_there (x ∷ xs) (suc i) n = nothing_there xs i (omega arith)

between_past : (lo hi j : ℕ) (xs ys : Records) → Under j xs → j ≤ lo → records_between lo hi (xs ++ ys) ≡ records_between lo hi ys
between_past lo hi j [] ys u l = refl
between_past lo hi j (x ∷ xs) ys u l = ap (λ b. cond (b && nat_le x.0 hi) (x ∷ records_between lo hi (xs ++ ys)) (records_between lo hi (xs ++ ys))) (lt-leb lo x.0 (omega (arith, u.0))) ∙ between_past lo hi j xs ys u.1 l

between_none : (lo hi j : ℕ) (xs : Records) → Least j xs → hi < j → records_between lo hi xs ≡ []
between_none lo hi j [] u l = refl
between_none lo hi j (x ∷ xs) u l = ap (λ b. cond (nat_le lo x.0 && b) (x ∷ records_between lo hi xs) (records_between lo hi xs)) (lt-leb x.0 hi (omega (arith, u.0))) ∙ (out (nat_le lo x.0) ∙ between_none lo hi j xs u.1 l)
  where
    out : (b : Bool) → cond (b && false) (x ∷ records_between lo hi xs) (records_between lo hi xs) ≡ records_between lo hi xs
    out true = refl
    out false = refl

between_in : (lo hi : ℕ) (b : Block) (bs : List Block) → Chain b bs → records_between lo hi (flat (drop (reached lo bs) (b ∷ bs))) ≡ records_between lo hi (flat (b ∷ bs))
between_in lo hi b [] h = refl
between_in lo hi b (c ∷ cs) h = at (nat_le c.fence lo) refl (between_in lo hi c cs h.1.1.1)
  where
    at : (t : Bool) → nat_le c.fence lo ≡ t → records_between lo hi (flat (drop (reached lo cs) (c ∷ cs))) ≡ records_between lo hi (flat (c ∷ cs))
        → records_between lo hi (flat (drop (cond t (suc (reached lo cs)) 0) (b ∷ c ∷ cs))) ≡ records_between lo hi (b.rows.items ++ flat (c ∷ cs))
    at true w more = more ∙ sym (between_past lo hi c.fence b.rows.items (flat (c ∷ cs)) h.1.0 (leb-true c.fence lo w))
    at false w more = refl

pub between_from : (lo hi : ℕ) (bs : List Block) (i : ℕ) → Chained bs → i ≡ slot_of lo bs → records_between lo hi (flat (take (length bs - i) (drop i bs))) ≡ records_between lo hi (flat bs)
between_from lo hi [] i h e = absurd h
between_from lo hi (b ∷ bs) i h e = ap (λ xs. records_between lo hi (flat xs)) (whole_rest (b ∷ bs) i ∙ ap (λ j. drop j (b ∷ bs)) e) ∙ between_in lo hi b bs h.1

-- each block rises, and from its fence on no key is below it
abbrev pub Laid : List Block → Type 0
Laid [] = Unit {0}
Laid (x ∷ xs) = (Least x.fence (flat (x ∷ xs)) × (is_sorted nat_cmp x.rows.items ≡ true)) × Laid xs

chain_laid : (c : Block) (cs : List Block) → Begins c.fence c.rows.items → Chain c cs → Laid (c ∷ cs)
chain_laid c [] b h = ((flat_least c [] b h, h), tt)
chain_laid c (e ∷ es) b h = ((flat_least c (e ∷ es) b h, h.0), chain_laid e es h.1.1.0 h.1.1.1)

alone : (k : ℕ) (rs : Records) → Starts k rs → is_sorted nat_cmp rs ≡ true → Least k (rs ++ [])
alone k [] s h = tt
alone k (r ∷ rs) s h = ended (r ∷ rs) (begun k (r ∷ rs) s (rises_from (r ∷ rs) h))
  where
    ended : (xs : Records) → Least k xs → Least k (xs ++ [])
    ended [] l = tt
    ended (x ∷ xs) l = (l.0, ended xs l.1)

chained_laid : (bs : List Block) → Chained bs → Laid bs
chained_laid [] h = tt
chained_laid (b ∷ []) h = ((alone b.fence b.rows.items h.0 h.1, h.1), tt)
chained_laid (b ∷ c ∷ cs) h = chain_laid b (c ∷ cs) h.0 h.1

laid_drop : (xs : List Block) (i : ℕ) → Laid xs → Laid (drop i xs)
laid_drop [] zero h = tt
laid_drop [] (suc i) h = tt
laid_drop (x ∷ xs) zero h = h
laid_drop (x ∷ xs) (suc i) h = laid_drop xs i h.1

pub laid_rest : (bs : List Block) (i : ℕ) → Chained bs → Laid (take (length bs - i) (drop i bs))
laid_rest bs i h = subst Laid (sym (whole_rest bs i)) (laid_drop bs i (chained_laid bs h))

pub laid_sorted : (xs : List Block) (i : ℕ) (d : Block) → Laid xs → i < length xs → is_sorted nat_cmp (get_or xs i d).rows.items ≡ true
laid_sorted [] i d h l = absurd (omega arith)
laid_sorted (x ∷ xs) zero d h l = h.0.1
laid_sorted (x ∷ xs) (suc i) d h l = laid_sorted xs i d h.1 (omega arith)

pub none_from : (lo hi : ℕ) (xs : List Block) (i : ℕ) (d : Block) → Laid xs → i < length xs → hi < (get_or xs i d).fence → records_between lo hi (flat (drop i xs)) ≡ []
none_from lo hi [] i d h l m = absurd (omega arith)
none_from lo hi (x ∷ xs) zero d h l m = between_none lo hi x.fence (flat (x ∷ xs)) h.0.0 m
none_from lo hi (x ∷ xs) (suc i) d h l m = none_from lo hi xs i d h.1 (omega arith) m

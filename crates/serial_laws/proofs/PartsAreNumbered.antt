-- What each shard has of a transaction that goes whole is numbered in order, and so is the whole.
use Rattle.std.proofs.Common.{◌≡◌, refl, sym, ap, subst, ◌∙◌, ℕ, ◌<◌, ◌≤◌, ◌⊎◌, inl, inr, ⊎_elim, true, false, ◌&&◌, ◌||◌, List, [], ◌∷◌, Option, Some, None, ◌==◌, nat_lt, nat_le, eqb-true, arith}
use Rattle.std.proofs.lemmas.Bool.{both_ways, and_parts, and_from, or_left, lt-ltb, le-leb, ltb-true, cond_both, cond-true, cond-false, cases_Bool}
use Rattle.clv_base.specs.declared.ops.Op.{Op}
use Rattle.clv_base.specs.declared.ops.Answer.{Answer}
use Rattle.clv_base.specs.Maps.{Operates, GoesBack}
use Rattle.clv_base.specs.Backs.{stands_for_back, is_next, are_numbered}
use Rattle.clv_base.specs.Sessions.{goes_on_back}
use Rattle.clv_base.specs.History.{DoneAct, is_with_next, put_act}
use Rattle.law_base.proofs.Bools.{and_no}
use Rattle.serial_laws.specs.Shares.{ShardAct, OnShard, BackOn, part_on, whole, numbered, Progress, not_begun, continues, followed, goes_whole_from, PartsAreNumbered}
use Rattle.serial_laws.proofs.Held.TrailsAreHeldMaps.{stands}
use Rattle.serial_laws.proofs.Whole.GoingsBackAreMerged.{before_back, twice, first_follows, new_back, next_op, op_stays}

-- ---- a part

-- the shard of the last going back, and that one more shard of it is higher
last_shard : (b : Option (ℕ × ℕ)) (i u : ℕ) → goes_on_back b i u ≡ true → (s : ℕ) × (b ≡ Some (s, u)) × (s < i)
last_shard None i u e = absurd (both_ways false refl e)
last_shard (Some b) i u e =
    let p = and_parts (nat_lt b.0 i) (b.1 == u) e in
    (b.0, ap (λ v. Some (b.0, v)) (eqb-true b.1 u p.1), ltb-true b.0 i p.0)

-- how far a shard's part is: what stands for the whole stands for it; and where its last act has the number of the whole one's, the last going
-- back is none, or came to this shard or a lower one
record Behind (n last : ℕ) (backs : List (ℕ × ℕ)) (p : Progress) : Type 0 where
  low : last ≤ p.nth
  stood : (w : ℕ) → stands w p.backs ≡ true → stands w backs ≡ true
  passed : (s v : ℕ) → p.back ≡ Some (s, v) → (last < p.nth) ⊎ (n ≤ s)
  goes_to : (s v : ℕ) → p.back ≡ Some (s, v) → (v < p.nth) × (stands v p.backs ≡ true) × ((w : ℕ) → stands w p.backs ≡ true → (nat_le w v || nat_le p.nth w) ≡ true)

no_back : {X : Type 0} (b : Option (ℕ × ℕ)) (w : ℕ × ℕ) → b ≡ None → b ≡ Some w → X
no_back b w e f = absurd (let h : ◌≡◌ {A = Option (ℕ × ℕ)} None (Some w) = sym e ∙ f in cc)

same_back : (b : Option (ℕ × ℕ)) (s v i u : ℕ) → b ≡ Some (i, u) → b ≡ Some (s, v) → (s ≡ i) × (v ≡ u)
same_back b s v i u e f = let h : (s, v) ≡ (i, u) = inside (s, v) (i, u) (sym f ∙ e) in (ap (λ w. w.0) h, ap (λ w. w.1) h)
  where
    inside : (x y : ℕ × ℕ) → Some x ≡ Some y → x ≡ y
    inside x y e = cc

module _ (n : ℕ) where
  Fits : List ShardAct → Type 0
  Fits xs = (p : Progress) (last : ℕ) (backs : List (ℕ × ℕ)) → goes_whole_from p xs ≡ true → Behind n last backs p → are_numbered last backs (numbered (part_on n xs)) ≡ true

  op_fits : (s k : ℕ) (o : Op) (a : Answer) (xs : List ShardAct) → Fits xs → Fits (OnShard s k o a ∷ xs)
  unfolding Fits
  op_fits s k o a xs rest p last backs e b =
      let q = followed p (OnShard s k o a) in
      let f = first_follows p (OnShard s k o a) xs e in
      let later : p.nth ≤ k = (next_op p s k o a f.0).later in
      let first = b.low in
      let behind : (l : ℕ) → l ≤ k → Behind n l backs q =
      λ l low. record { low = low; stood = b.stood; passed = λ s v h. no_back None (s, v) refl h; goes_to = λ s v h. no_back None (s, v) refl h } in
      cond_both (s == n) ((k, Operates o, Some a) ∷ part_on n xs) (part_on n xs) (λ ps. are_numbered last backs (numbered ps) ≡ true)
      (λ t. and_from (nat_le last k) (are_numbered k backs (numbered (part_on n xs))) (le-leb last k (omega arith)) (rest q k backs f.1 (behind k (omega arith))))
      (λ t. rest q last backs f.1 (behind last (omega arith)))

  -- one more entry of the last going back
  more_fits : (s k u : ℕ) (xs : List ShardAct) (p : Progress) (last : ℕ) (backs : List (ℕ × ℕ)) → Fits xs → goes_whole_from p (BackOn s k u ∷ xs) ≡ true → continues p s k u ≡ true → Behind n last backs p
      → are_numbered last backs (numbered (part_on n (BackOn s k u ∷ xs))) ≡ true
  unfolding Fits
  more_fits s k u xs p last backs rest e more b =
      let q = followed p (BackOn s k u) in
      let c = and_parts (k == p.nth) (goes_on_back p.back s u) more in
      let number : k ≡ p.nth = eqb-true k p.nth c.0 in
      let l = last_shard p.back s u c.1 in
      let i : ℕ = l.0 in
      let under : i < s = l.2 in
      let to = b.goes_to i u l.1 in
      let same : q.backs ≡ p.backs = cond-true (continues p s k u) p.backs ((k, u) ∷ p.backs) more in
      let goes : (j v : ℕ) → q.back ≡ Some (j, v) → (v < q.nth) × (stands v q.backs ≡ true) × ((w : ℕ) → stands w q.backs ≡ true → (nat_le w v || nat_le q.nth w) ≡ true) =
      λ j v h. subst (λ v. (v < k) × (stands v q.backs ≡ true) × ((w : ℕ) → stands w q.backs ≡ true → (nat_le w v || nat_le k w) ≡ true)) (sym (same_back q.back j v s u refl h).1)
      (omega (arith, to.0, number), subst (λ c. stands u c ≡ true) (sym same) to.1, λ w t. subst (λ m. (nat_le w u || nat_le m w) ≡ true) (sym number) (to.2 w (subst (λ c. stands w c ≡ true) same t))) in
      let first = b.low in
      cond_both (s == n) ((k, GoesBack u, None) ∷ part_on n xs) (part_on n xs) (λ ps. are_numbered last backs (numbered ps) ≡ true)
      (λ t. let here : s ≡ n = eqb-true s n t in
      let below : last < k = ⊎_elim (λ h. omega (arith, h, number)) (λ h. absurd (omega (arith, h, under, here))) (b.passed i u l.1) in
      and_from (nat_lt last k && (nat_lt u k && stands u backs)) (are_numbered k ((k, u) ∷ backs) (numbered (part_on n xs)))
      (and_from (nat_lt last k) (nat_lt u k && stands u backs) (lt-ltb last k below) (and_from (nat_lt u k) (stands u backs) (lt-ltb u k (omega (arith, to.0, number))) (b.stood u to.1)))
      (rest q k ((k, u) ∷ backs) (first_follows p (BackOn s k u) xs e).1
      (record {
        low = omega arith;
        stood =
            λ w h. and_from (nat_le w u || nat_le k w) (stands w backs) ((goes s u refl).2 w h) (b.stood w (subst (λ c. stands w c ≡ true) same h));
        passed = λ j v h. inr (let x : j ≡ s = (same_back q.back j v s u refl h).0 in omega (arith, here));
        goes_to = goes;
      })))
      (λ t. rest q last backs (first_follows p (BackOn s k u) xs e).1
      (record {
        low = omega (arith, number);
        stood = λ w h. b.stood w (subst (λ c. stands w c ≡ true) same h);
        passed = λ j v h. ⊎_elim (λ y. inl (omega (arith, y, number))) (λ y. inr (let x : j ≡ s = (same_back q.back j v s u refl h).0 in omega (arith, y, under))) (b.passed i u l.1);
        goes_to = goes;
      }))

  -- a new one
  new_fits : (s k u : ℕ) (xs : List ShardAct) (p : Progress) (last : ℕ) (backs : List (ℕ × ℕ)) → Fits xs → goes_whole_from p (BackOn s k u ∷ xs) ≡ true → continues p s k u ≡ false → Behind n last backs p
      → are_numbered last backs (numbered (part_on n (BackOn s k u ∷ xs))) ≡ true
  unfolding Fits
  new_fits s k u xs p last backs rest e no_more b =
      let q = followed p (BackOn s k u) in
      let f = first_follows p (BackOn s k u) xs e in
      let new = new_back p s k u f.0 no_more in
      let later : p.nth < k = new.later in
      let stood = and_parts (nat_lt u k) (stands u p.backs) new.stood in
      let under : u < k = ltb-true u k stood.0 in
      let same : q.backs ≡ (k, u) ∷ p.backs = cond-false (continues p s k u) p.backs ((k, u) ∷ p.backs) no_more in
      let parts : (w : ℕ) → stands w q.backs ≡ true → ((nat_le w u || nat_le k w) ≡ true) × (stands w p.backs ≡ true) =
      λ w h. and_parts (nat_le w u || nat_le k w) (stands w p.backs) (subst (λ c. stands w c ≡ true) same h) in
      let itself : stands u q.backs ≡ true =
      subst (λ c. stands u c ≡ true) (sym same) (and_from (nat_le u u || nat_le k u) (stands u p.backs) (or_left (nat_le u u) (nat_le k u) (le-leb u u (omega arith))) stood.1) in
      let goes : (j v : ℕ) → q.back ≡ Some (j, v) → (v < q.nth) × (stands v q.backs ≡ true) × ((w : ℕ) → stands w q.backs ≡ true → (nat_le w v || nat_le q.nth w) ≡ true) =
      λ j v h. subst (λ v. (v < k) × (stands v q.backs ≡ true) × ((w : ℕ) → stands w q.backs ≡ true → (nat_le w v || nat_le k w) ≡ true)) (sym (same_back q.back j v s u refl h).1)
      (under, itself, λ w t. (parts w t).0) in
      let first = b.low in
      let below : last < k = omega arith in
      cond_both (s == n) ((k, GoesBack u, None) ∷ part_on n xs) (part_on n xs) (λ ps. are_numbered last backs (numbered ps) ≡ true)
      (λ t. let here : s ≡ n = eqb-true s n t in
      and_from (nat_lt last k && (nat_lt u k && stands u backs)) (are_numbered k ((k, u) ∷ backs) (numbered (part_on n xs)))
      (and_from (nat_lt last k) (nat_lt u k && stands u backs) (lt-ltb last k below) (and_from (nat_lt u k) (stands u backs) (lt-ltb u k under) (b.stood u stood.1)))
      (rest q k ((k, u) ∷ backs) f.1
      (record {
        low = omega arith;
        stood = λ w h. and_from (nat_le w u || nat_le k w) (stands w backs) (parts w h).0 (b.stood w (parts w h).1);
        passed = λ j v h. inr (let x : j ≡ s = (same_back q.back j v s u refl h).0 in omega (arith, here));
        goes_to = goes;
      })))
      (λ t. rest q last backs f.1 (record { low = omega arith; stood = λ w h. b.stood w (parts w h).1; passed = λ j v h. inl below; goes_to = goes }))

  part_fits : (xs : List ShardAct) → Fits xs
  unfolding Fits
  part_fits [] p last backs e b = refl
  part_fits (OnShard s k o a ∷ xs) p last backs e b = op_fits s k o a xs (part_fits xs) p last backs e b
  part_fits (BackOn s k u ∷ xs) p last backs e b =
      ⊎_elim (λ h. more_fits s k u xs p last backs (part_fits xs) e h b) (λ h. new_fits s k u xs p last backs (part_fits xs) e h b) (cases_Bool (continues p s k u))

-- ---- the whole

WholeFits : List ShardAct → Type 0
WholeFits xs =
    ((p : Progress) → goes_whole_from p xs ≡ true → p.back ≡ None → are_numbered p.nth p.backs (numbered (whole xs)) ≡ true)
    × ((p : Progress) (s v last : ℕ) (backs : List (ℕ × ℕ)) → goes_whole_from p xs ≡ true → p.back ≡ Some (s, v) → p.backs ≡ (p.nth, v) ∷ backs → is_next last p.nth (GoesBack v) backs ≡ true
    → are_numbered last backs (numbered (put_act (p.nth, GoesBack v, None) (whole xs))) ≡ true)

whole_op : (s k : ℕ) (o : Op) (a : Answer) (xs : List ShardAct) (p : Progress) → WholeFits xs → goes_whole_from p (OnShard s k o a ∷ xs) ≡ true → are_numbered p.nth p.backs (numbered (whole (OnShard s k o a ∷ xs))) ≡ true
unfolding WholeFits
whole_op s k o a xs p rest e =
    let f = first_follows p (OnShard s k o a) xs e in
    subst (λ ps. are_numbered p.nth p.backs (numbered ps) ≡ true) (sym (op_stays p s k o a xs e))
    (and_from (nat_le p.nth k) (are_numbered k p.backs (numbered (whole xs))) (le-leb p.nth k (next_op p s k o a f.0).later) (rest.0 (followed p (OnShard s k o a)) f.1 refl))

whole_back : (s k u : ℕ) (xs : List ShardAct) (p : Progress) → WholeFits xs → goes_whole_from p (BackOn s k u ∷ xs) ≡ true → continues p s k u ≡ false → are_numbered p.nth p.backs (numbered (whole (BackOn s k u ∷ xs))) ≡ true
unfolding WholeFits
whole_back s k u xs p rest e no_more =
    let f = first_follows p (BackOn s k u) xs e in
    let new = new_back p s k u f.0 no_more in
    rest.1 (followed p (BackOn s k u)) s u p.nth p.backs f.1 refl (cond-false (continues p s k u) p.backs ((k, u) ∷ p.backs) no_more)
    (and_from (nat_lt p.nth k) (stands_for_back k u p.backs) (lt-ltb p.nth k new.later) new.stood)

-- the last going back is followed by another act
then_next : (p : Progress) (v last : ℕ) (backs : List (ℕ × ℕ)) (acts : List DoneAct) → p.backs ≡ (p.nth, v) ∷ backs → is_next last p.nth (GoesBack v) backs ≡ true → is_with_next (p.nth, GoesBack v, None) acts ≡ false → are_numbered p.nth p.backs (numbered acts) ≡ true
    → are_numbered last backs (numbered (put_act (p.nth, GoesBack v, None) acts)) ≡ true
then_next p v last backs acts are next other fits =
    subst (λ ps. are_numbered last backs (numbered ps) ≡ true) (sym (cond-false (is_with_next (p.nth, GoesBack v, None) acts) acts ((p.nth, GoesBack v, None) ∷ acts) other))
    (and_from (is_next last p.nth (GoesBack v) backs) (are_numbered p.nth ((p.nth, v) ∷ backs) (numbered acts)) next (subst (λ b. are_numbered p.nth b (numbered acts) ≡ true) are fits))

whole_more : (s v : ℕ) (xs : List ShardAct) (p : Progress) (last : ℕ) (backs : List (ℕ × ℕ)) → WholeFits xs → p.backs ≡ (p.nth, v) ∷ backs → is_next last p.nth (GoesBack v) backs ≡ true → (k u : ℕ) → p.nth ≡ k → v ≡ u
    → goes_whole_from p (BackOn s k u ∷ xs) ≡ true → continues p s k u ≡ true → are_numbered last backs (numbered (put_act (p.nth, GoesBack v, None) (whole (BackOn s k u ∷ xs)))) ≡ true
unfolding WholeFits
whole_more s v xs p last backs rest are next k u same_number same_place = subst (λ k. Goal k u) same_number (subst (λ u. Goal p.nth u) same_place there)
  where
    Goal : ℕ → ℕ → Type 0
    Goal k u = goes_whole_from p (BackOn s k u ∷ xs) ≡ true → continues p s k u ≡ true → are_numbered last backs (numbered (put_act (p.nth, GoesBack v, None) (whole (BackOn s k u ∷ xs)))) ≡ true

    there : Goal p.nth v
    there e more =
        subst (λ ps. are_numbered last backs (numbered ps) ≡ true) (sym (twice p.nth v (whole xs)))
        (rest.1 (followed p (BackOn s p.nth v)) s v last backs (first_follows p (BackOn s p.nth v) xs e).1 refl (cond-true (continues p s p.nth v) p.backs ((p.nth, v) ∷ p.backs) more ∙ are) next)

whole_fits : (xs : List ShardAct) → WholeFits xs
unfolding WholeFits
whole_fits [] = (λ p e none. refl, λ p s v last backs e back are next. then_next p v last backs [] are next refl refl)
whole_fits (OnShard i k o a ∷ xs) =
    let rest = whole_fits xs in (
      λ p e none. whole_op i k o a xs p rest e,
      λ p s v last backs e back are next.
          then_next p v last backs (whole (OnShard i k o a ∷ xs)) are next (ap (is_with_next (p.nth, GoesBack v, None)) (op_stays p i k o a xs e)) (whole_op i k o a xs p rest e),
    )
whole_fits (BackOn i k u ∷ xs) =
    let rest = whole_fits xs in (
      λ p e none. whole_back i k u xs p rest e (ap (λ b. (k == p.nth) && goes_on_back b i u) none ∙ and_no (k == p.nth)),
      λ p s v last backs e back are next.
          ⊎_elim
          (λ (more : continues p i k u ≡ true).
          let c = and_parts (k == p.nth) (goes_on_back p.back i u) more in
          let l = last_shard p.back i u c.1 in
          whole_more i v xs p last backs rest are next k u (sym (eqb-true k p.nth c.0)) (same_back p.back s v l.0 u l.1 back).1 e more)
          (λ (no_more : continues p i k u ≡ false).
          let new = new_back p i k u (first_follows p (BackOn i k u) xs e).0 no_more in
          then_next p v last backs (whole (BackOn i k u ∷ xs)) are next (before_back (p.nth, GoesBack v, None) k u (whole xs) (λ q. let l = new.later in omega arith)) (whole_back i k u xs p rest e no_more))
          (cases_Bool (continues p i k u)),
    )

pub parts_are_numbered : PartsAreNumbered
unfolding Fits WholeFits
parts_are_numbered t e = (
  λ n.
      part_fits n t not_begun 0 [] e
      (record { low = omega arith; stood = λ w h. h; passed = λ s v h. no_back None (s, v) refl h; goes_to = λ s v h. no_back None (s, v) refl h }),
  (whole_fits t).0 not_begun e refl,
)

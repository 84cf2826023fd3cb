-- What a transaction did on some of its shards goes whole where all that it did does.
use Rattle.std.proofs.Common.{◌≡◌, ⊎_elim, ℕ, ◌<◌, ◌≤◌, arith, Bool, true, false, cond, not, ◌&&◌, ◌||◌, ◌==◌, nat_lt, nat_le, List, [], ◌∷◌, Option, Some, None, refl, sym, ap, subst, ◌∙◌, eqb-true, eq-eqb}
use Rattle.std.specs.List.{filter, list_any, list_all}
use Rattle.std.proofs.lemmas.Bool.{both_ways, and_parts, and_from, or_cases, or_left, or_right, or_parts, or_from, not_from_false, lt-ltb, le-leb, ltb-true, leb-true, false_from_ne_true}
use Rattle.clv_base.specs.declared.ops.Op.{Op}
use Rattle.clv_base.specs.declared.ops.Answer.{Answer}
use Rattle.clv_base.specs.Backs.{has_written, stands_for_back}
use Rattle.clv_base.specs.Sessions.{with_written, is_back_whole, goes_on_back}
use Rattle.law_base.proofs.Bools.{not_true}
use Rattle.law_base.proofs.Lists.{filters_swap}
use Rattle.serial_laws.specs.Shares.{ShardAct, OnShard, BackOn, Progress, not_begun, continues, may_follow, kept_on, followed, goes_whole_from, goes_whole}
use Rattle.standby_laws.specs.Serial.{on_shards}

abbrev stands : ℕ → List (ℕ × ℕ) → Bool
stands v backs = list_all (λ (b : ℕ × ℕ). nat_le v b.1 || nat_le b.0 v) backs

abbrev beyond : ℕ → List (ℕ × ℕ) → Bool
beyond u ws = list_any (λ (w : ℕ × ℕ). nat_lt u w.1) ws

some_same : {A : Type 0} {x y : A} → Some x ≡ Some y → x ≡ y
some_same h = cc

module _ (f : ℕ → Bool) where
  abbrev Keeps : ℕ × ℕ → Bool
  Keeps w = f w.0

  -- where the last going back of all is, by that of those that are kept
  data Back (p q : Progress) : Type 0 where
    over : p.back ≡ None → is_back_whole q.back q.written ≡ true → Back p q
    dropped : (s u : ℕ) → p.back ≡ Some (s, u) → q.nth < p.nth → is_back_whole q.back q.written ≡ true → (nat_lt u p.nth && stands u q.backs) ≡ true → Back p q
    shared : (s r u : ℕ) → p.back ≡ Some (s, u) → q.back ≡ Some (r, u) → r ≤ s → q.nth ≡ p.nth → Back p q

  record Inv (p q : Progress) : Type 0 where
    low : q.nth ≤ p.nth
    written : q.written ≡ filter (λ (w : ℕ × ℕ). f w.0) p.written
    stood : (v : ℕ) → stands v p.backs ≡ true → stands v q.backs ≡ true
    goes_to : (s u : ℕ) → p.back ≡ Some (s, u) → (v : ℕ) → stands v p.backs ≡ true → (nat_le v u || nat_le p.nth v) ≡ true
    back : Back p q

  -- ---- writes

  fewer : (u : ℕ) (ws : List (ℕ × ℕ)) → beyond u ws ≡ false → beyond u (filter (λ (w : ℕ × ℕ). f w.0) ws) ≡ false
  fewer u [] e = refl
  fewer u (w ∷ ws) e = let p = or_parts (nat_lt u w.1) (beyond u ws) e in at (f w.0) p.0 (fewer u ws p.1)
    where
      at : (b : Bool) → nat_lt u w.1 ≡ false → beyond u (filter (λ (w : ℕ × ℕ). f w.0) ws) ≡ false → beyond u (cond b (w ∷ filter (λ (w : ℕ × ℕ). f w.0) ws) (filter (λ (w : ℕ × ℕ). f w.0) ws)) ≡ false
      at true a k = or_from (nat_lt u w.1) _ a k
      at false a k = k

  with_kept : (s k : ℕ) (b : Bool) (ws : List (ℕ × ℕ)) → f s ≡ true → with_written s k b (filter (λ (w : ℕ × ℕ). f w.0) ws) ≡ filter (λ (w : ℕ × ℕ). f w.0) (with_written s k b ws)
  with_kept s k true ws e = sym (ap (λ c. cond c ((s, k) ∷ filter (λ (w : ℕ × ℕ). f w.0) ws) (filter (λ (w : ℕ × ℕ). f w.0) ws)) e)
  with_kept s k false ws e = refl

  with_none : (s k : ℕ) (b : Bool) (ws : List (ℕ × ℕ)) → f s ≡ false → filter (λ (w : ℕ × ℕ). f w.0) ws ≡ filter (λ (w : ℕ × ℕ). f w.0) (with_written s k b ws)
  with_none s k true ws e = sym (ap (λ c. cond c ((s, k) ∷ filter (λ (w : ℕ × ℕ). f w.0) ws) (filter (λ (w : ℕ × ℕ). f w.0) ws)) e)
  with_none s k false ws e = refl

  kept_kept : (s u : ℕ) (ws : List (ℕ × ℕ)) → kept_on s u (filter (λ (w : ℕ × ℕ). f w.0) ws) ≡ filter (λ (w : ℕ × ℕ). f w.0) (kept_on s u ws)
  kept_kept s u ws = filters_swap (λ (w : ℕ × ℕ). not ((w.0 == s) && nat_lt u w.1)) (λ (w : ℕ × ℕ). f w.0) ws

  kept_none : (s u : ℕ) (ws : List (ℕ × ℕ)) → f s ≡ false → filter (λ (w : ℕ × ℕ). f w.0) ws ≡ filter (λ (w : ℕ × ℕ). f w.0) (kept_on s u ws)
  kept_none s u [] e = refl
  kept_none s u (w ∷ ws) e = at (f w.0) ((w.0 == s) && nat_lt u w.1) refl refl (kept_none s u ws e)
    where
      at : (b c : Bool) → f w.0 ≡ b → ((w.0 == s) && nat_lt u w.1) ≡ c → filter (λ (w : ℕ × ℕ). f w.0) ws ≡ filter (λ (w : ℕ × ℕ). f w.0) (kept_on s u ws)
          → cond b (w ∷ filter (λ (w : ℕ × ℕ). f w.0) ws) (filter (λ (w : ℕ × ℕ). f w.0) ws) ≡ filter (λ (w : ℕ × ℕ). f w.0) (cond (not c) (w ∷ kept_on s u ws) (kept_on s u ws))
      at true true g h k = absurd (both_ways _ e (subst (λ m. f m ≡ true) (eqb-true w.0 s (and_parts (w.0 == s) (nat_lt u w.1) h).0) g))
      at true false g h k = ap (λ l. w ∷ l) k ∙ sym (ap (λ c. cond c (w ∷ filter (λ (w : ℕ × ℕ). f w.0) (kept_on s u ws)) (filter (λ (w : ℕ × ℕ). f w.0) (kept_on s u ws))) g)
      at false true g h k = k
      at false false g h k = k ∙ sym (ap (λ c. cond c (w ∷ filter (λ (w : ℕ × ℕ). f w.0) (kept_on s u ws)) (filter (λ (w : ℕ × ℕ). f w.0) (kept_on s u ws))) g)

  -- ---- where all went back whole, so did those that are kept

  whole_back : (b : Option (ℕ × ℕ)) (s u : ℕ) (ws : List (ℕ × ℕ)) → b ≡ Some (s, u) → is_back_whole b ws ≡ true → beyond u ws ≡ false
  whole_back None s u ws e w = absurd cc
  whole_back (Some c) s u ws e w = not_true _ (subst (λ (d : ℕ × ℕ). not (beyond d.1 ws) ≡ true) (some_same e) w)

  back_whole : (b : Option (ℕ × ℕ)) (s u : ℕ) (ws : List (ℕ × ℕ)) → b ≡ Some (s, u) → beyond u ws ≡ false → is_back_whole b ws ≡ true
  back_whole b s u ws e w = subst (λ o. is_back_whole o ws ≡ true) (sym e) (not_from_false (beyond u ws) w)

  whole_too : (p q : Progress) → Inv p q → is_back_whole p.back p.written ≡ true → is_back_whole q.back q.written ≡ true
  whole_too p q i w = by i.back
    where
      by : Back p q → is_back_whole q.back q.written ≡ true
      by (over e k) = k
      by (dropped s u e l k t) = k
      by (shared s r u e g l n) = back_whole q.back r u q.written g (subst (λ ws. beyond u ws ≡ false) (sym i.written) (fewer u p.written (whole_back p.back s u p.written e w)))

  -- ---- act by act

  abbrev Fits : List ShardAct → Type 0
  Fits xs = (p q : Progress) → goes_whole_from p xs ≡ true → Inv p q → goes_whole_from q (filter (on_shards f) xs) ≡ true

  no_back : {X : Type 0} (s u : ℕ) → ◌≡◌ {A = Option (ℕ × ℕ)} None (Some (s, u)) → X
  no_back s u e = absurd cc

  op_fits : (s k : ℕ) (o : Op) (a : Answer) (xs : List ShardAct) → Fits xs → Fits (OnShard s k o a ∷ xs)
  op_fits s k o a xs rest p q e i = at (f s) refl
    where
      x : ShardAct
      x = OnShard s k o a

      m : ((is_back_whole p.back p.written && nat_le p.nth k) ≡ true) × (goes_whole_from (followed p (OnShard s k o a)) xs ≡ true)
      m = and_parts (is_back_whole p.back p.written && nat_le p.nth k) _ e

      w : (is_back_whole p.back p.written ≡ true) × (nat_le p.nth k ≡ true)
      w = and_parts (is_back_whole p.back p.written) (nat_le p.nth k) m.0

      later : p.nth ≤ k
      later = leb-true p.nth k w.1

      at : (b : Bool) → f s ≡ b → goes_whole_from q (cond b (OnShard s k o a ∷ filter (on_shards f) xs) (filter (on_shards f) xs)) ≡ true
      at true g =
          let l = i.low in
          let n = later in
          and_from _ _ (and_from (is_back_whole q.back q.written) (nat_le q.nth k) (whole_too p q i w.0) (le-leb q.nth k (omega (arith, l, n))))
          (rest (followed p (OnShard s k o a)) (followed q (OnShard s k o a)) m.1 (record {
            low = omega arith;
            written = ap (with_written s k (has_written o a)) i.written ∙ with_kept s k (has_written o a) p.written g;
            stood = i.stood;
            goes_to = λ s u h. no_back s u h;
            back = over refl refl;
          }))
      at false g =
          let l = i.low in
          let n = later in
          rest (followed p (OnShard s k o a)) q m.1 (record {
            low = omega (arith, l, n);
            written = i.written ∙ with_none s k (has_written o a) p.written g;
            stood = i.stood;
            goes_to = λ s u h. no_back s u h;
            back = over refl (whole_too p q i w.0);
          })

  last_back : (b : Option (ℕ × ℕ)) (s u : ℕ) → goes_on_back b s u ≡ true → (r : ℕ) × (b ≡ Some (r, u)) × (r < s)
  last_back None s u e = absurd (both_ways false refl e)
  last_back (Some b) s u e = let c = and_parts (nat_lt b.0 s) (b.1 == u) e in (b.0, ap (λ v. Some (b.0, v)) (eqb-true b.1 u c.1), ltb-true b.0 s c.0)

  goes_on : (b : Option (ℕ × ℕ)) (r s u : ℕ) → b ≡ Some (r, u) → r < s → goes_on_back b s u ≡ true
  goes_on b r s u e l = subst (λ o. goes_on_back o s u ≡ true) (sym e) (and_from (nat_lt r s) (u == u) (lt-ltb r s l) (eq-eqb u u refl))

  other_number : (q : Progress) (s k u : ℕ) → q.nth < k → continues q s k u ≡ false
  other_number q s k u l = false_from_ne_true (continues q s k u) (λ c. let z = eqb-true k q.nth (and_parts (k == q.nth) _ c).0 in absurd (omega (arith, z, l)))

  -- a going back that goes on
  more_fits : (s k u : ℕ) (xs : List ShardAct) (p q : Progress) → Fits xs → continues p s k u ≡ true → goes_whole_from (followed p (BackOn s k u)) xs ≡ true → Inv p q
      → goes_whole_from q (filter (on_shards f) (BackOn s k u ∷ xs)) ≡ true
  more_fits s k u xs p q rest more e i = at (f s) refl i.back
    where
      c : ((k == p.nth) ≡ true) × (goes_on_back p.back s u ≡ true)
      c = and_parts (k == p.nth) (goes_on_back p.back s u) more

      number : k ≡ p.nth
      number = eqb-true k p.nth c.0

      last : (r : ℕ) × (p.back ≡ Some (r, u)) × (r < s)
      last = last_back p.back s u c.1

      same : (followed p (BackOn s k u)).backs ≡ p.backs
      same = ap (λ b. cond b p.backs ((k, u) ∷ p.backs)) more

      goes : (j v : ℕ) → ◌≡◌ {A = Option (ℕ × ℕ)} (Some (s, u)) (Some (j, v)) → (w : ℕ) → stands w (followed p (BackOn s k u)).backs ≡ true → (nat_le w v || nat_le k w) ≡ true
      goes j v h w t =
          subst (λ (z : ℕ × ℕ). (nat_le w z.1 || nat_le k w) ≡ true) (some_same h)
          (subst (λ m. (nat_le w u || nat_le m w) ≡ true) (sym number) (i.goes_to last.0 u last.1 w (subst (λ bs. stands w bs ≡ true) same t)))

      stood : (v : ℕ) → stands v (followed p (BackOn s k u)).backs ≡ true → stands v q.backs ≡ true
      stood v t = i.stood v (subst (λ bs. stands v bs ≡ true) same t)

      written : f s ≡ true → kept_on s u q.written ≡ filter (λ (w : ℕ × ℕ). f w.0) (kept_on s u p.written)
      written g = ap (kept_on s u) i.written ∙ kept_kept s u p.written

      same_back : (r v : ℕ) → p.back ≡ Some (r, v) → (r ≡ last.0) × (v ≡ u)
      same_back r v h = let z : (r, v) ≡ (last.0, u) = some_same (sym h ∙ last.1) in (ap (λ (w : ℕ × ℕ). w.0) z, ap (λ (w : ℕ × ℕ). w.1) z)

      at : (b : Bool) → f s ≡ b → Back p q → goes_whole_from q (cond b (BackOn s k u ∷ filter (on_shards f) xs) (filter (on_shards f) xs)) ≡ true
      at false g (over h w) = no_back last.0 u (sym h ∙ last.1)
      at false g (dropped r v h l w t) =
          let z = same_back r v h in
          let n = number in
          let low = i.low in
          rest (followed p (BackOn s k u)) q e (record {
            low = omega (arith, l, n);
            written = i.written ∙ kept_none s u p.written g;
            stood = stood;
            goes_to = goes;
            back = dropped s u refl (omega (arith, l, n)) w (subst (λ m. (nat_lt u m && stands u q.backs) ≡ true) (sym number) (subst (λ y. (nat_lt y p.nth && stands y q.backs) ≡ true) z.1 t));
          })
      at false g (shared r j v h d l n) =
          let z = same_back r v h in
          let m = number in
          let y = z.0 in
          let x = last.2 in
          rest (followed p (BackOn s k u)) q e (record {
            low = omega (arith, n, m);
            written = i.written ∙ kept_none s u p.written g;
            stood = stood;
            goes_to = goes;
            back = shared s j u refl (d ∙ ap (λ w. Some (j, w)) z.1) (omega (arith, l, y, x)) (omega (arith, n, m));
          })
      at true g (over h w) = no_back last.0 u (sym h ∙ last.1)
      at true g (dropped r v h l w t) =
          let z = same_back r v h in
          let n = number in
          let below : q.nth < k = omega (arith, l, n) in
          let fit : (nat_lt u k && stands u q.backs) ≡ true = subst (λ m. (nat_lt u m && stands u q.backs) ≡ true) (sym number) (subst (λ y. (nat_lt y p.nth && stands y q.backs) ≡ true) z.1 t) in
          let new : (followed q (BackOn s k u)).backs ≡ (k, u) ∷ q.backs = ap (λ b. cond b q.backs ((k, u) ∷ q.backs)) (other_number q s k u below) in
          and_from _ _ (or_right (continues q s k u) _ (and_from (is_back_whole q.back q.written && nat_lt q.nth k) (stands_for_back k u q.backs) (and_from (is_back_whole q.back q.written) (nat_lt q.nth k) w (lt-ltb q.nth k below)) fit))
          (rest (followed p (BackOn s k u)) (followed q (BackOn s k u)) e (record {
            low = omega arith;
            written = written g;
            stood = λ y a. subst (λ bs. stands y bs ≡ true) (sym new) (and_from (nat_le y u || nat_le k y) (stands y q.backs) (goes s u refl y a) (stood y a));
            goes_to = goes;
            back = shared s s u refl refl (omega arith) refl;
          }))
      at true g (shared r j v h d l n) =
          let z = same_back r v h in
          let m = number in
          let y = z.0 in
          let x = last.2 in
          let on : continues q s k u ≡ true = and_from (k == q.nth) (goes_on_back q.back s u) (eq-eqb k q.nth (omega (arith, n, m))) (goes_on q.back j s u (d ∙ ap (λ w. Some (j, w)) z.1) (omega (arith, l, y, x))) in
          let kept : (followed q (BackOn s k u)).backs ≡ q.backs = ap (λ b. cond b q.backs ((k, u) ∷ q.backs)) on in
          and_from _ _ (or_left (continues q s k u) _ on)
          (rest (followed p (BackOn s k u)) (followed q (BackOn s k u)) e (record {
            low = omega arith;
            written = written g;
            stood = λ y a. subst (λ bs. stands y bs ≡ true) (sym kept) (stood y a);
            goes_to = goes;
            back = shared s s u refl refl (omega arith) refl;
          }))

  -- a new one
  new_fits : (s k u : ℕ) (xs : List ShardAct) (p q : Progress) → Fits xs → continues p s k u ≡ false → (is_back_whole p.back p.written && nat_lt p.nth k && stands_for_back k u p.backs) ≡ true
      → goes_whole_from (followed p (BackOn s k u)) xs ≡ true → Inv p q → goes_whole_from q (filter (on_shards f) (BackOn s k u ∷ xs)) ≡ true
  new_fits s k u xs p q rest no_more m e i = at (f s) refl
    where
      a : ((is_back_whole p.back p.written && nat_lt p.nth k) ≡ true) × (stands_for_back k u p.backs ≡ true)
      a = and_parts (is_back_whole p.back p.written && nat_lt p.nth k) (stands_for_back k u p.backs) m

      w : (is_back_whole p.back p.written ≡ true) × (nat_lt p.nth k ≡ true)
      w = and_parts (is_back_whole p.back p.written) (nat_lt p.nth k) a.0

      below : q.nth < k
      below = let l = i.low in let n = ltb-true p.nth k w.1 in omega (arith, l, n)

      to : (nat_lt u k ≡ true) × (stands u p.backs ≡ true)
      to = and_parts (nat_lt u k) (stands u p.backs) a.1

      same : (followed p (BackOn s k u)).backs ≡ (k, u) ∷ p.backs
      same = ap (λ b. cond b p.backs ((k, u) ∷ p.backs)) no_more

      both : (v : ℕ) → stands v (followed p (BackOn s k u)).backs ≡ true → ((nat_le v u || nat_le k v) ≡ true) × (stands v p.backs ≡ true)
      both v t = and_parts (nat_le v u || nat_le k v) (stands v p.backs) (subst (λ bs. stands v bs ≡ true) same t)

      goes : (j v : ℕ) → ◌≡◌ {A = Option (ℕ × ℕ)} (Some (s, u)) (Some (j, v)) → (y : ℕ) → stands y (followed p (BackOn s k u)).backs ≡ true → (nat_le y v || nat_le k y) ≡ true
      goes j v h y t = subst (λ (z : ℕ × ℕ). (nat_le y z.1 || nat_le k y) ≡ true) (some_same h) (both y t).0

      fit : (nat_lt u k && stands u q.backs) ≡ true
      fit = and_from (nat_lt u k) (stands u q.backs) to.0 (i.stood u to.1)

      at : (b : Bool) → f s ≡ b → goes_whole_from q (cond b (BackOn s k u ∷ filter (on_shards f) xs) (filter (on_shards f) xs)) ≡ true
      at false g =
          rest (followed p (BackOn s k u)) q e (record {
            low = (let l = below in omega (arith, l));
            written = i.written ∙ kept_none s u p.written g;
            stood = λ v t. i.stood v (both v t).1;
            goes_to = goes;
            back = dropped s u refl below (whole_too p q i w.0) fit;
          })
      at true g =
          let new : (followed q (BackOn s k u)).backs ≡ (k, u) ∷ q.backs = ap (λ b. cond b q.backs ((k, u) ∷ q.backs)) (other_number q s k u below) in
          and_from _ _ (or_right (continues q s k u) _ (and_from (is_back_whole q.back q.written && nat_lt q.nth k) (stands_for_back k u q.backs) (and_from (is_back_whole q.back q.written) (nat_lt q.nth k) (whole_too p q i w.0) (lt-ltb q.nth k below)) fit))
          (rest (followed p (BackOn s k u)) (followed q (BackOn s k u)) e (record {
            low = omega arith;
            written = ap (kept_on s u) i.written ∙ kept_kept s u p.written;
            stood = λ v t. subst (λ bs. stands v bs ≡ true) (sym new) (and_from (nat_le v u || nat_le k v) (stands v q.backs) (both v t).0 (i.stood v (both v t).1));
            goes_to = goes;
            back = shared s s u refl refl (omega arith) refl;
          }))

  back_fits : (s k u : ℕ) (xs : List ShardAct) → Fits xs → Fits (BackOn s k u ∷ xs)
  back_fits s k u xs rest p q e i = at (continues p s k u) refl
    where
      m : (may_follow p (BackOn s k u) ≡ true) × (goes_whole_from (followed p (BackOn s k u)) xs ≡ true)
      m = and_parts (may_follow p (BackOn s k u)) _ e

      at : (b : Bool) → continues p s k u ≡ b → goes_whole_from q (filter (on_shards f) (BackOn s k u ∷ xs)) ≡ true
      at true c = more_fits s k u xs p q rest c m.1 i
      at false c = new_fits s k u xs p q rest c (⊎_elim (λ t. absurd (both_ways _ c t)) (λ t. t) (or_cases (continues p s k u) _ m.0)) m.1 i

  all_fit : (xs : List ShardAct) → Fits xs
  all_fit [] p q e i = whole_too p q i e
  all_fit (OnShard s k o a ∷ xs) p q e i = op_fits s k o a xs (all_fit xs) p q e i
  all_fit (BackOn s k u ∷ xs) p q e i = back_fits s k u xs (all_fit xs) p q e i

  pub kept_goes_whole : (xs : List ShardAct) → goes_whole xs ≡ true → goes_whole (filter (on_shards f) xs) ≡ true
  kept_goes_whole xs e = all_fit xs not_begun not_begun e (record { low = omega arith; written = refl; stood = λ v t. t; goes_to = λ s u h. no_back s u h; back = over refl refl })

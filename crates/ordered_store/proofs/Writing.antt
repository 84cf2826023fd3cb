-- Records with a value set, and with one taken away.
use Rattle.std.proofs.Common.{◌≡◌, ℕ, zero, suc, ◌<◌, ◌≤◌, Bool, true, false, cond, not, ◌==◌, nat_lt, [], ◌∷◌, length, get_or, set, Option, refl, sym, ap, subst, ◌∙◌, arith}
use Rattle.std.proofs.lemmas.Bool.{ltb-true, ltb-false, eq-eqb, ne_eqb, cond_both}
use Rattle.std.proofs.lemmas.Bool.Decides.{nat_tests}
use Rattle.std.specs.List.{filter, insert, remove}
use Rattle.std.specs.declared.cmp.Ordering.{Ordering}
use Rattle.std.specs.declared.cmp.Ordering.TheVariants.{Less, Equal, Greater}
use Rattle.std.specs.Ordering.{nat_cmp, match_ordering}
use Rattle.clv_base.specs.declared.values.Value.{Value as ValueType}
use Rattle.clv_base.specs.Needs.{Records, record_set}
use Rattle.ordered_store.proofs.Rising.{Above, Rises, above_less, lows}
use Rattle.law_base.proofs.Names.{set_by as by_cmp}
use Rattle.clv_base.proofs.Arrays.{is_equal, is_less, is_greater}

abbrev first_with : Option ValueType → Records → ℕ → Records
first_with v rs j = (j, v) ∷ rs

module _ (k : ℕ) (v : Option ValueType) (d : ℕ × Option ValueType) where
  -- a key that is there keeps its place
  pub record_set-there : (rs : Records) → lows k rs < length rs → (get_or rs (lows k rs) d).0 ≡ k → set rs (lows k rs) (k, v) ≡ record_set k v rs
  record_set-there [] l e = absurd (omega arith)
  record_set-there (r ∷ rs) l e = at (nat_lt r.0 k) refl (record_set-there rs) l e
    where
      at : (b : Bool) → nat_lt r.0 k ≡ b → (lows k rs < length rs → (get_or rs (lows k rs) d).0 ≡ k → set rs (lows k rs) (k, v) ≡ record_set k v rs)
          → cond b (suc (lows k rs)) zero < length (r ∷ rs) → (get_or (r ∷ rs) (cond b (suc (lows k rs)) zero) d).0 ≡ k
          → set (r ∷ rs) (cond b (suc (lows k rs)) zero) (k, v) ≡ by_cmp (nat_cmp k r.0) k v r rs
      at true w more l e = ap (λ ys. r ∷ ys) (more (omega arith) e) ∙ ap (λ o. by_cmp o k v r rs) (sym (is_greater k r.0 (ltb-true r.0 k w)))
      at false w more l e = ap (first_with v rs) (sym e) ∙ ap (λ o. by_cmp o k v r rs) (sym (is_equal k r.0 (sym e)))

  -- a new one goes to its place
  pub record_set-new : (rs : Records) → (lows k rs < length rs → (get_or rs (lows k rs) d).0 ≡ k → ⊥) → insert rs (lows k rs) (k, v) ≡ record_set k v rs
  record_set-new [] n = refl
  record_set-new (r ∷ rs) n = at (nat_lt r.0 k) refl (record_set-new rs) n
    where
      at : (b : Bool) → nat_lt r.0 k ≡ b → ((lows k rs < length rs → (get_or rs (lows k rs) d).0 ≡ k → ⊥) → insert rs (lows k rs) (k, v) ≡ record_set k v rs)
          → (cond b (suc (lows k rs)) zero < length (r ∷ rs) → (get_or (r ∷ rs) (cond b (suc (lows k rs)) zero) d).0 ≡ k → ⊥)
          → insert (r ∷ rs) (cond b (suc (lows k rs)) zero) (k, v) ≡ by_cmp (nat_cmp k r.0) k v r rs
      at true w more n = ap (λ ys. r ∷ ys) (more (λ l e. n (omega arith) e)) ∙ ap (λ o. by_cmp o k v r rs) (sym (is_greater k r.0 (ltb-true r.0 k w)))
      at false w more n =
          let differ : r.0 ≡ k → ⊥ = λ e. n (omega arith) e in
          let up : k ≤ r.0 = ltb-false r.0 k w in
          ap (λ o. by_cmp o k v r rs) (sym (is_less k r.0 (omega arith)))

-- ---- order

above_set : (j k : ℕ) (v : Option ValueType) (rs : Records) → j < k → Above j rs → Above j (record_set k v rs)
above_set j k v [] l h = (l, tt)
above_set j k v (r ∷ rs) l h = at (nat_cmp k r.0) (above_set j k v rs l h.1)
  where
    at : (o : Ordering) → Above j (record_set k v rs) → Above j (match_ordering o ((k, v) ∷ r ∷ rs) ((r.0, v) ∷ rs) (r ∷ record_set k v rs))
    at Less more = (l, h)
    at Equal more = h
    at Greater more = (h.0, more)

pub rises_set : (k : ℕ) (v : Option ValueType) (rs : Records) → Rises rs → Rises (record_set k v rs)
rises_set k v [] h = (tt, tt)
rises_set k v (r ∷ rs) h = at (nat_cmp k r.0) refl (rises_set k v rs h.1)
  where
    at : (o : Ordering) → nat_cmp k r.0 ≡ o → Rises (record_set k v rs) → Rises (match_ordering o ((k, v) ∷ r ∷ rs) ((r.0, v) ∷ rs) (r ∷ record_set k v rs))
    at Less e more = let l : k < r.0 = grind (arith, nat_tests) in ((l, above_less k r.0 rs (omega arith) h.0), h)
    at Equal e more = h
    at Greater e more = let l : r.0 < k = grind (arith, nat_tests) in (above_set r.0 k v rs l h.0, more)

above_filter : (p : ℕ × Option ValueType → Bool) (j : ℕ) (rs : Records) → Above j rs → Above j (filter p rs)
above_filter p j [] h = tt
above_filter p j (r ∷ rs) h = cond_both (p r) (r ∷ filter p rs) (filter p rs) (Above j) (λ e. (h.0, above_filter p j rs h.1)) (λ e. above_filter p j rs h.1)

pub rises_filter : (p : ℕ × Option ValueType → Bool) (rs : Records) → Rises rs → Rises (filter p rs)
rises_filter p [] h = tt
rises_filter p (r ∷ rs) h = cond_both (p r) (r ∷ filter p rs) (filter p rs) Rises (λ e. (above_filter p r.0 rs h.0, rises_filter p rs h.1)) (λ e. rises_filter p rs h.1)

-- ---- taking away

pub all_others : (k : ℕ) (rs : Records) → Above k rs → filter (λ (r : ℕ × Option ValueType). not (r.0 == k)) rs ≡ rs
all_others k [] h = refl
all_others k (r ∷ rs) h =
    ap (λ b. cond (not b) (r ∷ filter (λ (r : ℕ × Option ValueType). not (r.0 == k)) rs) (filter (λ (r : ℕ × Option ValueType). not (r.0 == k)) rs)) (ne_eqb r.0 k (λ e. let l : k < r.0 = h.0 in absurd (omega arith)))
    ∙ ap (λ ys. r ∷ ys) (all_others k rs h.1)

-- the record at its place goes, and no other
pub remove-filter : (k : ℕ) (d : ℕ × Option ValueType) (rs : Records) → Rises rs → lows k rs < length rs → (get_or rs (lows k rs) d).0 ≡ k → remove rs (lows k rs) ≡ filter (λ (r : ℕ × Option ValueType). not (r.0 == k)) rs
remove-filter k d [] h l e = absurd (omega arith)
remove-filter k d (r ∷ rs) h l e = at (nat_lt r.0 k) refl (remove-filter k d rs h.1) l e
  where
    at : (b : Bool) → nat_lt r.0 k ≡ b → (lows k rs < length rs → (get_or rs (lows k rs) d).0 ≡ k → remove rs (lows k rs) ≡ filter (λ (r : ℕ × Option ValueType). not (r.0 == k)) rs)
        → cond b (suc (lows k rs)) zero < length (r ∷ rs) → (get_or (r ∷ rs) (cond b (suc (lows k rs)) zero) d).0 ≡ k
        → remove (r ∷ rs) (cond b (suc (lows k rs)) zero) ≡ cond (not (r.0 == k)) (r ∷ filter (λ (r : ℕ × Option ValueType). not (r.0 == k)) rs) (filter (λ (r : ℕ × Option ValueType). not (r.0 == k)) rs)
    at true w more l e =
        ap (λ ys. r ∷ ys) (more (omega arith) e)
        ∙ ap (λ b. cond (not b) (r ∷ filter (λ (r : ℕ × Option ValueType). not (r.0 == k)) rs) (filter (λ (r : ℕ × Option ValueType). not (r.0 == k)) rs)) (sym (ne_eqb r.0 k (λ q. let s = ltb-true r.0 k w in absurd (omega arith))))
    at false w more l e =
        sym (all_others k rs (subst (λ j. Above j rs) e h.0))
        ∙ ap (λ b. cond (not b) (r ∷ filter (λ (r : ℕ × Option ValueType). not (r.0 == k)) rs) (filter (λ (r : ℕ × Option ValueType). not (r.0 == k)) rs)) (sym (eq-eqb r.0 k e))

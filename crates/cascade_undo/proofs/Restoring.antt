-- Records with one set back.
use Rattle.std.proofs.Common.{◌≡◌, ℕ, ◌<◌, true, false, cond, ◌==◌, [], ◌∷◌, map, Option, Some, None, refl, sym, ap, ◌∙◌, eq-eqb, arith}
use Rattle.std.proofs.lemmas.Bool.{both_ways, ne_eqb}
use Rattle.std.proofs.lemmas.Bool.Decides.{nat_tests}
use Rattle.std.specs.Map.{lookup}
use Rattle.std.specs.declared.cmp.Ordering.{Ordering}
use Rattle.std.specs.declared.cmp.Ordering.TheVariants.{Less, Equal, Greater}
use Rattle.std.specs.Ordering.{nat_cmp, match_ordering}
use Rattle.clv_base.specs.declared.values.Value.{Value as ValueType}
use Rattle.clv_base.specs.Needs.{Records, found_at, found_by, is_there, live_of, record_set, value_at}
use Rattle.ordered_store.proofs.Laws.{Above, Rises, above_less}
use Rattle.ordered_store.proofs.Laws.{none_above}
use Rattle.law_base.proofs.Bools.{by_bool as both}

-- the records with another value, by that which is there, at a key
abbrev pub set_back : ℕ → (Option ValueType → Option ValueType) → Records → Records
set_back k f rs = map (λ r. (r.0, cond (r.0 == k) (f r.1) r.1)) rs

others_same : (k : ℕ) (f : Option ValueType → Option ValueType) (rs : Records) → Above k rs → rs ≡ set_back k f rs
others_same k f [] h = refl
others_same k f (r ∷ rs) h =
    ap (λ l. r ∷ l) (others_same k f rs h.1)
    ∙ ap (λ b. (r.0, cond b (f r.1) r.1) ∷ set_back k f rs) (sym (ne_eqb r.0 k (λ e. let l : k < r.0 = h.0 in absurd (omega arith))))

live_there : (v : Option ValueType) → live_of (found_by (Some v)) ≡ v
live_there None = refl
live_there (Some x) = refl

pub set_there : (k : ℕ) (f : Option ValueType → Option ValueType) (rs : Records) → Rises rs → is_there (found_at k rs) ≡ true → record_set k (f (value_at k rs)) rs ≡ set_back k f rs
set_there k f [] h e = absurd (both_ways false refl e)
set_there k f (r ∷ rs) h e = at (nat_cmp k r.0) refl (set_there k f rs h.1)
  where
    at : (o : Ordering) → nat_cmp k r.0 ≡ o → (is_there (found_at k rs) ≡ true → record_set k (f (value_at k rs)) rs ≡ set_back k f rs)
        → match_ordering o ((k, f (value_at k (r ∷ rs))) ∷ r ∷ rs) ((r.0, f (value_at k (r ∷ rs))) ∷ rs) (r ∷ record_set k (f (value_at k (r ∷ rs))) rs) ≡ (r.0, cond (r.0 == k) (f r.1) r.1) ∷ set_back k f rs
    at Less o more =
        let l : k < r.0 = grind (arith, nat_tests) in
        let none : lookup (◌==◌ k) (r ∷ rs) ≡ None = none_above k (r ∷ rs) (l, above_less k r.0 rs (omega arith) h.0) in
        absurd (both_ways false refl (ap (λ x. is_there (found_by x)) (sym none) ∙ e))
    at Equal o more =
        let same : k ≡ r.0 = grind (arith, nat_tests) in
        ap (λ b. (r.0, f (live_of (found_by (cond b (Some r.1) (lookup (◌==◌ k) rs))))) ∷ rs) (eq-eqb k r.0 same)
        ∙ ap (λ v. (r.0, f v) ∷ rs) (live_there r.1)
        ∙ ap (λ l. (r.0, f r.1) ∷ l) (others_same k f rs (above_less k r.0 rs (omega arith) h.0))
        ∙ ap (λ b. (r.0, cond b (f r.1) r.1) ∷ set_back k f rs) (sym (eq-eqb r.0 k (sym same)))
    at Greater o more =
        let l : r.0 < k = grind (arith, nat_tests) in
        let past : (k == r.0) ≡ false = ne_eqb k r.0 (λ q. absurd (omega arith)) in
        let there : is_there (found_at k rs) ≡ true = ap (λ b. is_there (found_by (cond b (Some r.1) (lookup (◌==◌ k) rs)))) (sym past) ∙ e in
        ap (λ b. r ∷ record_set k (f (live_of (found_by (cond b (Some r.1) (lookup (◌==◌ k) rs))))) rs) past
        ∙ ap (λ l. r ∷ l) (more there) ∙ ap (λ b. (r.0, cond b (f r.1) r.1) ∷ set_back k f rs) (sym (ne_eqb r.0 k (λ q. absurd (omega arith))))

pub there_by : (v : Option ValueType) → is_there (found_by (Some v)) ≡ true
there_by None = refl
there_by (Some x) = refl

-- which keys are there stays
pub there_stays : (k : ℕ) (f : Option ValueType → Option ValueType) (rs : Records) (j : ℕ) → is_there (found_at j (set_back k f rs)) ≡ is_there (found_at j rs)
there_stays k f [] j = refl
there_stays k f (r ∷ rs) j =
    both (λ b. is_there (found_by (cond b (Some (cond (r.0 == k) (f r.1) r.1)) (lookup (◌==◌ j) (set_back k f rs)))) ≡ is_there (found_by (cond b (Some r.1) (lookup (◌==◌ j) rs)))) (j == r.0)
    (λ _. there_by (cond (r.0 == k) (f r.1) r.1) ∙ sym (there_by r.1)) (λ _. there_stays k f rs j)

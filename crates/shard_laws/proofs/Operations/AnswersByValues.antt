-- What an operation answers by the records is what it answers by a map with the same values.
use Rattle.std.proofs.Common.{◌≡◌, ℕ, ◌<◌, ⊎_elim, Bool, true, false, cond, ◌&&◌, [], ◌∷◌, Option, Some, None, ◌==◌, nat_le, refl, sym, ap, subst, ◌∙◌, eqb-true}
use Rattle.std.specs.Ordering.{nat_cmp}
use Rattle.std.specs.FinMap.Entries.{below_all, is_sorted}
use Rattle.std.specs.Cmp.{unsigned_tied}
use Rattle.std.proofs.lemmas.Bool.{cases_Bool, both_ways, cond-true, cond-false, and_from}
use Rattle.clv_base.specs.declared.values.Value.{Value as ValueType}
use Rattle.clv_base.specs.declared.ops.Op.{Op}
use Rattle.clv_base.specs.declared.ops.Op.TheVariants.{Get, Put, Del, Scan, Add}
use Rattle.clv_base.specs.declared.ops.Answer.TheVariants.{Value, Pairs, Added}
use Rattle.clv_base.specs.Maps.{KeyMap, is_number, map_get, map_between, lies_between, op_answer}
use Rattle.clv_base.specs.Needs.{Records, value_at, live_pairs, records_between, answer_of}
use Rattle.law_base.proofs.Cells.{record_at, live_by}
use Rattle.clv_base.specs.Folding.{IsRising}
use Rattle.clv_base.proofs.Folding.{same_map, find_between, rising_between}
use Rattle.law_base.proofs.Anchors.{Rising, AllAbove, absent_above, rising_filter, less_true}
use Rattle.law_base.proofs.Bools.{t_true}

-- ---- the live pairs as a map

above_case : (k j : ℕ) (o : Option ValueType) (rest : KeyMap) → k < j → below_all nat_cmp k rest ≡ true → below_all nat_cmp k (elim o [ Some v ↦ (j, v) ∷ rest | None ↦ rest ]) ≡ true
above_case k j None rest l e = e
above_case k j (Some v) rest l e = and_from _ _ (less_true k j l) e

live_above : (k : ℕ) (rs : Records) → AllAbove k rs → below_all nat_cmp k (live_pairs rs) ≡ true
live_above k [] all = refl
live_above k (r ∷ rs) all = above_case k r.0 r.1 (live_pairs rs) all.0 (live_above k rs all.1)

rises_case : (j : ℕ) (o : Option ValueType) (rest : KeyMap) → below_all nat_cmp j rest ≡ true → is_sorted nat_cmp rest ≡ true → is_sorted nat_cmp (elim o [ Some v ↦ (j, v) ∷ rest | None ↦ rest ]) ≡ true
rises_case j None rest a e = e
rises_case j (Some v) rest a e = and_from _ _ a e

pub live_rises : (rs : Records) → Rising rs → is_sorted nat_cmp (live_pairs rs) ≡ true
live_rises [] h = refl
live_rises (r ∷ rs) h = rises_case r.0 r.1 (live_pairs rs) (live_above r.0 rs h.0) (live_rises rs h.1)

find_case : (q j : ℕ) (o : Option ValueType) (rest : KeyMap) (old : Option (Option ValueType)) → map_get q rest ≡ live_by old → ((q == j) ≡ true → old ≡ None) → map_get q (elim o [ Some v ↦ (j, v) ∷ rest | None ↦ rest ]) ≡ live_by (cond (q == j) (Some o) old)
find_case q j (Some v) rest old e none = ap (λ b. cond b (Some v) (map_get q rest)) (unsigned_tied q j) ∙ at (q == j)
  where
    at : (b : Bool) → cond b (Some v) (map_get q rest) ≡ live_by (cond b (Some (Some v)) old)
    at true = refl
    at false = e
find_case q j None rest old e none = e ∙ at (q == j) none
  where
    at : (b : Bool) → (b ≡ true → old ≡ None) → live_by old ≡ live_by (cond b (Some None) old)
    at true none = ap live_by (none refl)
    at false none = refl

pub live_find : (q : ℕ) (rs : Records) → Rising rs → map_get q (live_pairs rs) ≡ value_at q rs
live_find q [] h = refl
live_find q (r ∷ rs) h =
    find_case q r.0 r.1 (live_pairs rs) (record_at q rs) (live_find q rs h.1) (λ e. absent_above q rs (subst (λ j. AllAbove j rs) (sym (eqb-true q r.0 e)) h.0))

-- the records of a scan
between_at : (lo hi q : ℕ) (rs : Records) → record_at q (records_between lo hi rs) ≡ cond (lies_between lo hi q) (record_at q rs) None
between_at lo hi q [] = at (lies_between lo hi q)
  where
    at : (b : Bool) → ◌≡◌ {A = Option (Option ValueType)} None (cond b None None)
    at true = refl
    at false = refl
between_at lo hi q (r ∷ rs) =
    ⊎_elim
    (λ e. ap (record_at q) (cond-true (lies_between lo hi r.0) (r ∷ records_between lo hi rs) (records_between lo hi rs) e) ∙ ap (cond (q == r.0) (Some r.1)) (between_at lo hi q rs)
    ∙ kept (q == r.0) (lies_between lo hi q) (λ t. ap (lies_between lo hi) (eqb-true q r.0 t) ∙ e))
    (λ e. ap (record_at q) (cond-false (lies_between lo hi r.0) (r ∷ records_between lo hi rs) (records_between lo hi rs) e) ∙ between_at lo hi q rs
    ∙ dropped (q == r.0) (lies_between lo hi q) (λ t. ap (lies_between lo hi) (eqb-true q r.0 t) ∙ e))
    (cases_Bool (lies_between lo hi r.0))
  where
    kept : (b c : Bool) → (b ≡ true → c ≡ true) → cond b (Some r.1) (cond c (record_at q rs) None) ≡ cond c (cond b (Some r.1) (record_at q rs)) None
    kept true true h = refl
    kept true false h = absurd (both_ways false refl (h refl))
    kept false c h = refl

    dropped : (b c : Bool) → (b ≡ true → c ≡ false) → cond c (record_at q rs) None ≡ cond c (cond b (Some r.1) (record_at q rs)) None
    dropped true true h = absurd (both_ways true (h refl) refl)
    dropped true false h = refl
    dropped false c h = refl

live_cond : (b : Bool) (o : Option (Option ValueType)) → live_by (cond b o None) ≡ cond b (live_by o) None
live_cond true o = refl
live_cond false o = refl

scan_same : (lo hi : ℕ) (rs : Records) (m : KeyMap) → Rising rs → IsRising m → ((q : ℕ) → map_get q m ≡ value_at q rs) → live_pairs (records_between lo hi rs) ≡ map_between lo hi m
scan_same lo hi rs m h g e =
    let here : Rising (records_between lo hi rs) = rising_filter (λ r. nat_le lo r.0 && nat_le r.0 hi) rs h in
    same_map (live_pairs (records_between lo hi rs)) (map_between lo hi m) (t_true _ (live_rises (records_between lo hi rs) here)) (rising_between lo hi m g)
    (λ q. live_find q (records_between lo hi rs) here ∙ ap live_by (between_at lo hi q rs) ∙ live_cond (lies_between lo hi q) (record_at q rs)
    ∙ ap (λ x. cond (lies_between lo hi q) x None) (sym (e q)) ∙ sym (find_between lo hi q m))

pub same_told : (o : Op) (rs : Records) (m : KeyMap) → Rising rs → IsRising m → ((q : ℕ) → map_get q m ≡ value_at q rs) → answer_of o rs ≡ op_answer o m
same_told (Get k) rs m h g e = ap Value (sym (e k))
same_told (Put k v) rs m h g e = ap Value (sym (e k))
same_told (Del k) rs m h g e = ap Value (sym (e k))
same_told (Add k n) rs m h g e = ap (λ v. Added (is_number v)) (sym (e k))
same_told (Scan lo hi) rs m h g e = ap Pairs (scan_same lo hi rs m h g e)

-- The entries of a tree, in the words of the definitions.
use Rattle.std.proofs.Common.{◌≡◌, ℕ, ◌<◌, Bool, true, false, cond, ◌==◌, List, [], ◌∷◌, map, Some, None, nat_cmp, Less, refl, sym, ap, ap₂, subst, ◌∙◌, arith}
use Rattle.std.specs.Ordering.{nat_cmp, match_ordering}
use Rattle.std.specs.declared.cmp.Ordering.{Ordering}
use Rattle.std.specs.declared.cmp.Ordering.TheVariants.{Less, Equal, Greater}
use Rattle.std.specs.BTreeMap.{is_at, insert_entry}
use Rattle.std.specs.BTreeMap.Range.{range_contains, entries_between}
use Rattle.std.specs.declared.ops.Bound.TheVariants.{Included}
use Rattle.std.specs.Map.{remove_entry, keys_of}
use Rattle.std.specs.List.{AllByRecursion}
use Rattle.std.specs.List.Sorted.{IsStrictlySortedBy}
use Rattle.std.specs.FinMap.{put}
use Rattle.std.specs.FinMap.Entries.{by_order}
use Rattle.std.proofs.lemmas.Bool.Decides.{nat_tests}
use Rattle.clv_base.specs.declared.values.Value.{Value as ValueType}
use Rattle.clv_base.specs.Maps.{map_set, map_between, lies_between}

pub set_is_insert : (k : ℕ) (v : ValueType) (es : List (ℕ × ValueType)) → insert_entry nat_cmp es k v ≡ map_set k (Some v) es
set_is_insert k v [] = refl
set_is_insert k v (e ∷ es) = at (nat_cmp k e.0) (set_is_insert k v es)
  where
    at : (o : Ordering) → insert_entry nat_cmp es k v ≡ put nat_cmp k v es
        → match_ordering o ((k, v) ∷ e ∷ es) ((e.0, v) ∷ es) (e ∷ insert_entry nat_cmp es k v) ≡ by_order o ((k, v) ∷ e ∷ es) ((e.0, v) ∷ es) (e ∷ put nat_cmp k v es)
    at Less ih = refl
    at Equal ih = refl
    at Greater ih = ap (λ l. e ∷ l) ih

-- keys above another one differ from it
all_above : (k : ℕ) (es : List (ℕ × ValueType)) → AllByRecursion (λ y. nat_cmp k y ≡ Less) (keys_of es) → map_set k None es ≡ es
all_above k [] above = refl
all_above k (e ∷ es) above =
    let other : (e.0 == k) ≡ false = grind (arith, nat_tests, above.0) in
    rw other (ap (λ l. e ∷ l) (all_above k es above.1))

removed_by : (b : Bool) (k : ℕ) (e : ℕ × ValueType) (es : List (ℕ × ValueType)) → is_at (nat_cmp k) e.0 ≡ b → AllByRecursion (λ y. nat_cmp e.0 y ≡ Less) (keys_of es) → remove_entry (is_at (nat_cmp k)) es ≡ map_set k None es
    → cond b es (e ∷ remove_entry (is_at (nat_cmp k)) es) ≡ map_set k None (e ∷ es)
removed_by true k e es is above rest =
    let same : e.0 ≡ k = grind (arith, nat_tests) in
    let test : (e.0 == k) ≡ true = grind (arith, nat_tests) in
    let high : AllByRecursion (λ y. nat_cmp k y ≡ Less) (keys_of es) = subst (λ (x : ℕ). AllByRecursion (λ y. nat_cmp x y ≡ Less) (keys_of es)) same above in
    rw test (sym (all_above k es high))
removed_by false k e es is above rest =
    let test : (e.0 == k) ≡ false = grind (arith, nat_tests) in
    rw test (ap (λ (l : List (ℕ × ValueType)). e ∷ l) rest)

pub remove_is_set : (k : ℕ) (es : List (ℕ × ValueType)) → IsStrictlySortedBy nat_cmp (keys_of es) → remove_entry (is_at (nat_cmp k)) es ≡ map_set k None es
unfolding IsStrictlySortedBy
remove_is_set k [] sorted = refl
remove_is_set k (e ∷ es) sorted = removed_by (is_at (nat_cmp k) e.0) k e es refl sorted.0 (remove_is_set k es sorted.1)

same_test : (low high q : ℕ) → range_contains nat_cmp (Included low) (Included high) q ≡ lies_between low high q
same_test low high q = grind (arith, nat_tests)

pub between_is_range : (low high : ℕ) (es : List (ℕ × ValueType)) → entries_between nat_cmp (Included low) (Included high) es ≡ map_between low high es
between_is_range low high [] = refl
between_is_range low high (e ∷ es) = ap₂ (λ b ys. cond b (e ∷ ys) ys) (same_test low high e.0) (between_is_range low high es)

pub between_none : (low high : ℕ) → high < low → (es : List (ℕ × ValueType)) → [] ≡ map_between low high es
between_none low high lt [] = refl
between_none low high lt (e ∷ es) =
    let none : lies_between low high e.0 ≡ false = grind (arith, nat_tests) in
    between_none low high lt es ∙ ap (λ b. cond b (e ∷ map_between low high es) (map_between low high es)) (sym none)

-- a list of pairs, each as it is
pub each_same : (es : List (ℕ × ValueType)) → map (λ (e : ℕ × ValueType). e) es ≡ es
each_same [] = refl
each_same (e ∷ es) = ap (λ l. e ∷ l) (each_same es)

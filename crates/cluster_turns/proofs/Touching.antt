-- A touch written into the array of epochs.
use Rattle.std.proofs.Common.{◌≡◌, refl, ap, ◌∙◌, ℕ, zero, suc, ◌<◌, Bool, true, false, not, cond, List, [], ◌∷◌, length, get_or, Option, Some, None, ◌==◌, slice_get, slice_set, arith, map, nat_lt, ◌+◌, ◌≤◌}
use Rattle.std.specs.Prelude.{is_some}
use Rattle.std.proofs.lemmas.Bool.{both_ways, and_from, lt-ltb}
use Rattle.std.specs.List.{list_all}
use Rattle.clv_base.specs.FileRules.{numbers_rise}
use Rattle.std.specs.Ordering.{nat_cmp}
use Rattle.std.specs.Map.{lookup}
use Rattle.std.specs.BTreeMap.{insert_entry}
use Rattle.clv_base.specs.Arrays.{present_from}
use Rattle.clv_base.specs.Sessions.{touch}
use Rattle.clv_base.proofs.Arrays.{present_lookup, present_set, flat}

at_place : (xs : List (Option ℕ)) (n : ℕ) (d : Option ℕ) → n < length xs → flat (slice_get xs n) ≡ get_or xs n d
at_place [] n d l = absurd (omega arith)
at_place (x ∷ xs) zero d l = refl
at_place (x ∷ xs) (suc n) d l = at_place xs n d (omega arith)

found : (xs : List (Option ℕ)) (n : ℕ) (d : Option ℕ) → n < length xs → lookup (◌==◌ n) (present_from 0 xs) ≡ get_or xs n d
found xs n d l = present_lookup 0 n xs n (omega arith) ∙ at_place xs n d l

pub touch_new : (xs : List (Option ℕ)) (n epoch : ℕ) (d : Option ℕ) → n < length xs → get_or xs n d ≡ None → touch n epoch (present_from 0 xs) ≡ present_from 0 (slice_set xs n (Some epoch))
touch_new xs n epoch d l h =
    ap (λ o. cond (is_some o) (present_from 0 xs) (insert_entry nat_cmp (present_from 0 xs) n epoch)) (found xs n d l ∙ h) ∙ present_set 0 n epoch xs n (omega arith) l

pub touch_again : (xs : List (Option ℕ)) (n epoch old : ℕ) (d : Option ℕ) → n < length xs → get_or xs n d ≡ Some old → touch n epoch (present_from 0 xs) ≡ present_from 0 xs
touch_again xs n epoch old d l h = ap (λ o. cond (is_some o) (present_from 0 xs) (insert_entry nat_cmp (present_from 0 xs) n epoch)) (found xs n d l ∙ h)

pub none_there : (x : Option ℕ) (b : Bool) → is_some x ≡ not b → b ≡ true → x ≡ None
none_there None b e h = refl
none_there (Some v) b e h = absurd (both_ways true (e ∙ ap not h) refl)

pub some_there : {X : Type 0} (x : Option ℕ) (b : Bool) → is_some x ≡ not b → b ≡ false → ((v : ℕ) → x ≡ Some v → X) → X
some_there None b e h k = absurd (both_ways false refl (e ∙ ap not h))
some_there (Some v) b e h k = k v refl

-- ---- the list, place by place

abbrev pub front : ℕ → Option ℕ → List (ℕ × ℕ) → List (ℕ × ℕ)
front n None rest = rest
front n (Some epoch) rest = (n, epoch) ∷ rest

-- ---- the touched shards rise

rise_front : (m k : ℕ) (xs : List (Option ℕ)) → m < k → numbers_rise (m ∷ map (λ t. t.0) (present_from k xs)) ≡ true
rise_front m k [] l = refl
rise_front m k (None ∷ xs) l = rise_front m (suc k) xs (omega arith)
rise_front m k (Some x ∷ xs) l = and_from (nat_lt m k) (numbers_rise (k ∷ map (λ t. t.0) (present_from (suc k) xs))) (lt-ltb m k l) (rise_front k (suc k) xs (omega arith))

pub places_rise : (k : ℕ) (xs : List (Option ℕ)) → numbers_rise (map (λ t. t.0) (present_from k xs)) ≡ true
places_rise k [] = refl
places_rise k (None ∷ xs) = places_rise (suc k) xs
places_rise k (Some x ∷ xs) = rise_front k (suc k) xs (omega arith)

pub places_low : (k : ℕ) (xs : List (Option ℕ)) → k + length xs ≤ 16 → list_all (λ t. nat_lt t.0 16) (present_from k xs) ≡ true
places_low k [] l = refl
places_low k (None ∷ xs) l = places_low (suc k) xs (omega arith)
places_low k (Some x ∷ xs) l = and_from (nat_lt k 16) (list_all (λ t. nat_lt t.0 16) (present_from (suc k) xs)) (lt-ltb k 16 (omega arith)) (places_low (suc k) xs (omega arith))

-- What keys hold in all.
use Rattle.std.proofs.Common.{◌≡◌, ◌≢◌, refl, sym, ap, subst, ◌∙◌, ℕ, zero, suc, ◌+◌, ◌-◌, ◌*◌, ◌<◌, ◌≤◌, ◌==◌, nat_le, Bool, true, false, cond, ◌&&◌, T, [], ◌∷◌, Option, Some, None, arith}
use mathlib.Core.Logic.{dite}
use native.Mathlib.Decide.{ℕ_discrete}
use Rattle.std.proofs.lemmas.Bool.{ne_eqb, eq-eqb}
use Rattle.std.proofs.lemmas.Bool.Decides.{nat_tests}
use Rattle.std.specs.Ordering.{nat_cmp, is_lt}
use Rattle.std.specs.Cmp.{unsigned_tied}
use Rattle.std.specs.FinMap.{find, is_sorted}
use Rattle.std.specs.FinMap.Entries.{below_all}
use Rattle.clv_base.specs.declared.values.Value.{Value as ValueType}
use Rattle.clv_base.specs.declared.values.Value.TheVariants.{Num, Bytes}
use Rattle.clv_base.specs.Maps.{KeyMap, map_get, map_set, map_between, lies_between}
use Rattle.clv_base.specs.Folding.{IsRising}
use Rattle.clv_base.proofs.Folding.{get_set, get_other, find_between, rising_between, same_map}
use Rattle.report_text.specs.Loads.{values_sum}
use Rattle.workload_laws.specs.Sums.{accounts_sum}

abbrev pub worth : Option ValueType → ℕ
worth None = 0
worth (Some (Num v)) = v
worth (Some (Bytes bytes)) = 0

-- n keys from k
abbrev pub held : ℕ → ℕ → KeyMap → ℕ
held k zero m = 0
held k (suc n) m = worth (map_get k m) + held (suc k) n m

pub same_held : (k n : ℕ) (m m' : KeyMap) → ((q : ℕ) → k ≤ q → map_get q m ≡ map_get q m') → held k n m ≡ held k n m'
same_held k zero m m' same = refl
same_held k (suc n) m m' same =
    let here = ap worth (same k (omega arith)) in
    let rest = same_held (suc k) n m m' (λ q l. same q (omega arith)) in
    omega arith

-- of these keys alone
pub alike_held : (k n : ℕ) (m m' : KeyMap) → ((q : ℕ) → q < k + n → map_get q m ≡ map_get q m') → held k n m ≡ held k n m'
alike_held k zero m m' same = refl
alike_held k (suc n) m m' same =
    let here = ap worth (same k (omega arith)) in
    let rest = alike_held (suc k) n m m' (λ q l. same q (omega arith)) in
    omega arith

-- one key gets another value
set_here : (k n key v : ℕ) (m : KeyMap) → key ≡ k → held k (suc n) (map_set key (Some (Num v)) m) + worth (map_get key m) ≡ held k (suc n) m + v
set_here k n key v m e =
    let m' = map_set key (Some (Num v)) m in
    let new : worth (map_get k m') ≡ v = ap worth (get_set k key (Some (Num v)) m ∙ ap (λ b. cond b (Some (Num v)) (map_get k m)) (eq-eqb k key (sym e))) in
    let old : worth (map_get key m) ≡ worth (map_get k m) = ap (λ j. worth (map_get j m)) e in
    let rest : held (suc k) n m' ≡ held (suc k) n m = same_held (suc k) n m' m (λ q l. get_other q key (Some (Num v)) m (ne_eqb q key (λ s. omega arith))) in
    omega arith

set_further : (k n key v : ℕ) (m : KeyMap) → key ≢ k → held (suc k) n (map_set key (Some (Num v)) m) + worth (map_get key m) ≡ held (suc k) n m + v
    → held k (suc n) (map_set key (Some (Num v)) m) + worth (map_get key m) ≡ held k (suc n) m + v
set_further k n key v m apart rest =
    let other : worth (map_get k (map_set key (Some (Num v)) m)) ≡ worth (map_get k m) = ap worth (get_other k key (Some (Num v)) m (ne_eqb k key (λ s. apart (sym s)))) in
    omega arith

pub held_set : (k n key v : ℕ) (m : KeyMap) → k ≤ key → key < k + n → held k n (map_set key (Some (Num v)) m) + worth (map_get key m) ≡ held k n m + v
held_set k zero key v m low high = absurd (omega arith)
held_set k (suc n) key v m low high =
    dite (ℕ_discrete key k) (set_here k n key v m) (λ apart. set_further k n key v m apart (held_set (suc k) n key v m (omega (arith, apart)) (omega arith)))

-- each holds 1000
pub held_each : (k n : ℕ) (m : KeyMap) → ((q : ℕ) → k ≤ q → q < k + n → map_get q m ≡ Some (Num 1000)) → held k n m ≡ 1000 * n
held_each k zero m each = refl
held_each k (suc n) m each =
    let here = ap worth (each k (omega arith) (omega arith)) in
    let rest = held_each (suc k) n m (λ q l h. each q (omega arith) (omega arith)) in
    omega arith

-- ---- the pairs of these keys, where each has a value

abbrev listed : ℕ → ℕ → KeyMap → KeyMap
listed k zero m = []
listed k (suc n) m = (k, Num (worth (map_get k m))) ∷ listed (suc k) n m

sum_of_listed : (k n : ℕ) (m : KeyMap) → values_sum (listed k n m) ≡ held k n m
sum_of_listed k zero m = refl
sum_of_listed k (suc n) m = ap (λ s. worth (map_get k m) + s) (sum_of_listed (suc k) n m)

above : (j k n : ℕ) (m : KeyMap) → j < k → below_all nat_cmp j (listed k n m) ≡ true
above j k zero m l = refl
above j k (suc n) m l =
    let rest = above j (suc k) n m (omega arith) in
    let here : is_lt (nat_cmp j k) ≡ true = grind (arith, nat_tests) in
    ap (λ b. b && below_all nat_cmp j (listed (suc k) n m)) here ∙ rest

listed_rises : (k n : ℕ) (m : KeyMap) → is_sorted nat_cmp (listed k n m) ≡ true
listed_rises k zero m = refl
listed_rises k (suc n) m = ap (λ b. b && is_sorted nat_cmp (listed (suc k) n m)) (above k (suc k) n m (omega arith)) ∙ listed_rises (suc k) n m

find_first : (q k : ℕ) (v : ValueType) (m : KeyMap) → find nat_cmp q ((k, v) ∷ m) ≡ cond (q == k) (Some v) (find nat_cmp q m)
find_first q k v m = ap (λ b. cond b (Some v) (find nat_cmp q m)) (unsigned_tied q k)

find_past : (q k n : ℕ) (m : KeyMap) → k + n ≤ q → find nat_cmp q (listed k n m) ≡ None
find_past q k zero m l = refl
find_past q k (suc n) m l =
    find_first q k (Num (worth (map_get k m))) (listed (suc k) n m) ∙ ap (λ b. cond b (Some (Num (worth (map_get k m)))) (find nat_cmp q (listed (suc k) n m))) (ne_eqb q k (λ e. omega arith))
    ∙ find_past q (suc k) n m (omega arith)

found_here : (q k n : ℕ) (m : KeyMap) → q ≡ k → find nat_cmp q (listed k (suc n) m) ≡ Some (Num (worth (map_get q m)))
found_here q k n m e =
    find_first q k (Num (worth (map_get k m))) (listed (suc k) n m) ∙ ap (λ b. cond b (Some (Num (worth (map_get k m)))) (find nat_cmp q (listed (suc k) n m))) (eq-eqb q k e)
    ∙ ap (λ j. Some (Num (worth (map_get j m)))) (sym e)

found_further : (q k n : ℕ) (m : KeyMap) → q ≢ k → find nat_cmp q (listed k (suc n) m) ≡ find nat_cmp q (listed (suc k) n m)
found_further q k n m apart =
    find_first q k (Num (worth (map_get k m))) (listed (suc k) n m) ∙ ap (λ b. cond b (Some (Num (worth (map_get k m)))) (find nat_cmp q (listed (suc k) n m))) (ne_eqb q k apart)

find_inside : (q k n : ℕ) (m : KeyMap) → k ≤ q → q < k + n → find nat_cmp q (listed k n m) ≡ Some (Num (worth (map_get q m)))
find_inside q k zero m low high = absurd (omega arith)
find_inside q k (suc n) m low high =
    dite (ℕ_discrete q k) (found_here q k n m) (λ apart. found_further q k n m apart ∙ find_inside q (suc k) n m (omega (arith, apart)) (omega arith))

zero_below : (q : ℕ) → nat_le 0 q ≡ true
zero_below q = grind (arith, nat_tests)

-- each of the first n keys has a value
abbrev pub AreFilled : ℕ → KeyMap → Type 0
AreFilled n m = (q : ℕ) → q < n → (v : ℕ) × (map_get q m ≡ Some (Num v))

between_is : (n : ℕ) (m : KeyMap) → 1 ≤ n → IsRising m → AreFilled n m → map_between 0 (n - 1) m ≡ listed 0 n m
between_is n m some rising filled =
    same_map (map_between 0 (n - 1) m) (listed 0 n m) (rising_between 0 (n - 1) m rising) (subst T (sym (listed_rises 0 n m)) tt) (λ q. find_between 0 (n - 1) q m ∙ at q (nat_le q (n - 1)) refl)
  where
    at : (q : ℕ) (b : Bool) → nat_le q (n - 1) ≡ b → cond (lies_between 0 (n - 1) q) (map_get q m) None ≡ find nat_cmp q (listed 0 n m)
    at q true e =
        let low : q < n = grind (arith, nat_tests) in
        let f = filled q low in
        let inside : lies_between 0 (n - 1) q ≡ true = ap (λ b. b && nat_le q (n - 1)) (zero_below q) ∙ e in
        ap (λ b. cond b (map_get q m) None) inside ∙ f.1 ∙ sym (find_inside q 0 n m (omega arith) (omega arith) ∙ ap (λ o. Some (Num (worth o))) f.1)
    at q false e =
        let high : n ≤ q = grind (arith, nat_tests) in
        let outside : lies_between 0 (n - 1) q ≡ false = ap (λ b. b && nat_le q (n - 1)) (zero_below q) ∙ e in
        ap (λ b. cond b (map_get q m) None) outside ∙ sym (find_past q 0 n m (omega arith))

pub sum_is_held : (n : ℕ) (m : KeyMap) → 1 ≤ n → IsRising m → AreFilled n m → accounts_sum n m ≡ held 0 n m
sum_is_held n m some rising filled = ap values_sum (between_is n m some rising filled) ∙ sum_of_listed 0 n m

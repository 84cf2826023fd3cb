-- A scan's parts, one behind the other, are answered as the whole scan is.
use Rattle.std.proofs.Common.{◌≡◌, ℕ, suc, ◌<◌, ◌≤◌, Bool, true, false, cond, ◌&&◌, nat_le, [], ◌∷◌, ◌++◌, T, inl, inr, refl, sym, ap, ap₂, ◌∙◌, arith}
use Rattle.std.proofs.lemmas.Bool.{cases_lt, le-leb, lt-leb}
use Rattle.std.specs.Ordering.{nat_cmp}
use Rattle.std.specs.FinMap.Entries.{is_sorted, below_all}
use Rattle.clv_base.specs.declared.values.Value.{Value as ValueType}
use Rattle.clv_base.specs.Maps.{KeyMap, map_between, lies_between}
use Rattle.clv_base.specs.Folding.{IsRising}
use Rattle.clv_audit.proofs.Laws.{less, t_first, t_second}

none_from : (lo hi : ℕ) (k : ℕ) (m : KeyMap) → hi < k → T (below_all nat_cmp k m) → map_between lo hi m ≡ []
none_from lo hi k [] h b = refl
none_from lo hi k (p ∷ m) h b =
    let above = less k p.0 (t_first _ _ b) in
    let outside : lies_between lo hi p.0 ≡ false = out (nat_le lo p.0) (lt-leb p.0 hi (omega arith)) in
    ap (λ c. cond c (p ∷ map_between lo hi m) (map_between lo hi m)) outside ∙ none_from lo hi k m h (t_second _ _ b)
  where
    out : (a : Bool) {c : Bool} → c ≡ false → (a && c) ≡ false
    out true e = e
    out false e = refl

-- where all keys are above one, the lower bound says nothing up to there
all_from : (lo lo2 hi k : ℕ) (m : KeyMap) → lo ≤ suc k → lo2 ≤ suc k → T (below_all nat_cmp k m) → map_between lo hi m ≡ map_between lo2 hi m
all_from lo lo2 hi k [] h g b = refl
all_from lo lo2 hi k (p ∷ m) h g b =
    let above = less k p.0 (t_first _ _ b) in
    ap₂ (λ (c : Bool) (l : KeyMap). cond (c && nat_le p.0 hi) (p ∷ l) l) (le-leb lo p.0 (omega arith) ∙ sym (le-leb lo2 p.0 (omega arith))) (all_from lo lo2 hi k m h g (t_second _ _ b))

none_here : (lo hi : ℕ) (p : ℕ × ValueType) (m : KeyMap) → hi < p.0 → T (below_all nat_cmp p.0 m) → map_between lo hi (p ∷ m) ≡ []
none_here lo hi p m over above = out (nat_le lo p.0) (lt-leb p.0 hi over) (none_from lo hi p.0 m over above)
  where
    out : (a : Bool) → nat_le p.0 hi ≡ false → map_between lo hi m ≡ [] → cond (a && nat_le p.0 hi) (p ∷ map_between lo hi m) (map_between lo hi m) ≡ []
    out true e none = ap (λ c. cond c (p ∷ map_between lo hi m) (map_between lo hi m)) e ∙ none
    out false e none = none

pub between_joined : (lo hi hi2 : ℕ) (m : KeyMap) → IsRising m → lo ≤ suc hi → hi ≤ hi2 → map_between lo hi m ++ map_between (suc hi) hi2 m ≡ map_between lo hi2 m
between_joined lo hi hi2 [] r l h = refl
between_joined lo hi hi2 (p ∷ m) r l h =
    let above = t_first (below_all nat_cmp p.0 m) (is_sorted nat_cmp m) r in
    let rest = between_joined lo hi hi2 m (t_second (below_all nat_cmp p.0 m) (is_sorted nat_cmp m) r) l h in
    elim (cases_lt hi p.0) [
      | inl over ↦
          ap₂ (λ (a b : KeyMap). a ++ b) (none_here lo hi p m over above) refl
          ∙ ap₂ (λ (c : Bool) (k : KeyMap). cond (c && nat_le p.0 hi2) (p ∷ k) k) (le-leb (suc hi) p.0 (omega arith) ∙ sym (le-leb lo p.0 (omega arith))) (all_from (suc hi) lo hi2 p.0 m (omega arith) (omega arith) above)
      | inr under ↦
          at (nat_le lo p.0) (le-leb p.0 hi under) (le-leb p.0 hi2 (omega arith)) (lt-leb (suc hi) p.0 (omega arith)) rest
    ]
  where
    at : (a : Bool) → nat_le p.0 hi ≡ true → nat_le p.0 hi2 ≡ true → nat_le (suc hi) p.0 ≡ false → map_between lo hi m ++ map_between (suc hi) hi2 m ≡ map_between lo hi2 m
        → cond (a && nat_le p.0 hi) (p ∷ map_between lo hi m) (map_between lo hi m) ++ cond (nat_le (suc hi) p.0 && nat_le p.0 hi2) (p ∷ map_between (suc hi) hi2 m) (map_between (suc hi) hi2 m)
        ≡ cond (a && nat_le p.0 hi2) (p ∷ map_between lo hi2 m) (map_between lo hi2 m)
    at true e f g rest = rw (e, f, g) (ap (λ (l : KeyMap). p ∷ l) rest)
    at false e f g rest = rw (g) rest

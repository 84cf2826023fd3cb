-- The records between two keys stand together.
use Rattle.std.proofs.Common.{◌≡◌, ℕ, zero, suc, ◌+◌, ◌<◌, ◌≤◌, Bool, true, false, cond, ◌&&◌, nat_lt, nat_le, [], ◌∷◌, take, drop, Option, refl, ap, ◌∙◌, arith}
use Rattle.std.proofs.lemmas.Bool.{ltb-true, ltb-false, leb-false, le-leb, lt-leb}
use Rattle.std.specs.List.{prefix_len, take_while}
use Rattle.clv_base.specs.declared.values.Value.{Value as ValueType}
use Rattle.clv_base.specs.Needs.{Records, records_between}
use Rattle.ordered_store.proofs.Rising.{Above, Rises, above_less, lows}

none_up_to : (lo hi : ℕ) (rs : Records) → Above hi rs → records_between lo hi rs ≡ []
none_up_to lo hi [] h = refl
none_up_to lo hi (r ∷ rs) h = ap (λ b. cond (nat_le lo r.0 && b) (r ∷ records_between lo hi rs) (records_between lo hi rs)) (lt-leb r.0 hi h.0) ∙ out (nat_le lo r.0) ∙ none_up_to lo hi rs h.1
  where
    out : (b : Bool) → cond (b && false) (r ∷ records_between lo hi rs) (records_between lo hi rs) ≡ records_between lo hi rs
    out true = refl
    out false = refl

-- the first record is at or above lo
Starts : ℕ → Records → Type 0
Starts lo [] = Unit {0}
Starts lo (r ∷ rs) = lo ≤ r.0

starts : (lo j : ℕ) (rs : Records) → lo ≤ j → Above j rs → Starts lo rs
unfolding Starts
starts lo j [] l h = tt
starts lo j (r ∷ rs) l h = let a : j < r.0 = h.0 in omega arith

from_here : (lo hi : ℕ) (rs : Records) → Rises rs → Starts lo rs → records_between lo hi rs ≡ take_while (λ (r : ℕ × Option ValueType). nat_le r.0 hi) rs
unfolding Starts
from_here lo hi [] h s = refl
from_here lo hi (r ∷ rs) h s =
    ap (λ b. cond (b && nat_le r.0 hi) (r ∷ records_between lo hi rs) (records_between lo hi rs)) (le-leb lo r.0 s)
    ∙ at (nat_le r.0 hi) refl (from_here lo hi rs h.1 (starts lo r.0 rs s h.0))
  where
    at : (b : Bool) → nat_le r.0 hi ≡ b → records_between lo hi rs ≡ take_while (λ (r : ℕ × Option ValueType). nat_le r.0 hi) rs
        → cond b (r ∷ records_between lo hi rs) (records_between lo hi rs) ≡ take (cond b (1 + prefix_len (λ (r : ℕ × Option ValueType). nat_le r.0 hi) rs) 0) (r ∷ rs)
    at true w more = ap (λ ys. r ∷ ys) more ∙ ap (λ n. take n (r ∷ rs)) (let e : suc (prefix_len (λ (r : ℕ × Option ValueType). nat_le r.0 hi) rs) ≡ 1 + prefix_len (λ (r : ℕ × Option ValueType). nat_le r.0 hi) rs = omega arith in e)
    at false w more = none_up_to lo hi rs (above_less hi r.0 rs (let a : hi < r.0 = leb-false r.0 hi w in omega arith) h.0)

pub records_between-run : (lo hi : ℕ) (rs : Records) → Rises rs → records_between lo hi rs ≡ take_while (λ (r : ℕ × Option ValueType). nat_le r.0 hi) (drop (lows lo rs) rs)
unfolding Starts
records_between-run lo hi [] h = refl
records_between-run lo hi (r ∷ rs) h = at (nat_lt r.0 lo) refl (records_between-run lo hi rs h.1)
  where
    at : (b : Bool) → nat_lt r.0 lo ≡ b → records_between lo hi rs ≡ take_while (λ (r : ℕ × Option ValueType). nat_le r.0 hi) (drop (lows lo rs) rs)
        → records_between lo hi (r ∷ rs) ≡ take_while (λ (r : ℕ × Option ValueType). nat_le r.0 hi) (drop (cond b (suc (lows lo rs)) zero) (r ∷ rs))
    at true w more = ap (λ b. cond (b && nat_le r.0 hi) (r ∷ records_between lo hi rs) (records_between lo hi rs)) (lt-leb lo r.0 (ltb-true r.0 lo w)) ∙ more
    at false w more = from_here lo hi (r ∷ rs) h (ltb-false r.0 lo w)

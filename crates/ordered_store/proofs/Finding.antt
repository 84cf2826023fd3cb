-- What stands at the place of a key, and what stands below it.
use Rattle.std.proofs.Common.{◌≡◌, ℕ, zero, suc, ◌<◌, ◌≤◌, Bool, true, false, cond, ◌==◌, nat_lt, [], ◌∷◌, length, get_or, Option, Some, None, refl, sym, ap, ◌∙◌, arith}
use Rattle.std.proofs.lemmas.Bool.{ltb-true, ltb-false, le-ltb, eq-eqb}
use Rattle.std.specs.Map.{lookup}
use Rattle.clv_base.specs.declared.values.Value.{Value as ValueType}
use Rattle.clv_base.specs.declared.modes.Anchor.{Anchor}
use Rattle.clv_base.specs.declared.modes.Anchor.TheVariants.{Low, At}
use Rattle.clv_base.specs.Needs.{Records, anchor_from, lower_anchor}
use Rattle.ordered_store.proofs.Rising.{Above, Rises, above_less, lows}
use Rattle.law_base.proofs.Numbers.{unequal_test as other}

-- no record is at a key below all
pub none_above : (k : ℕ) (rs : Records) → Above k rs → lookup (◌==◌ k) rs ≡ None
none_above k [] h = refl
none_above k (r ∷ rs) h = ap (λ b. cond b (Some r.1) (lookup (◌==◌ k) rs)) (other k r.0 (λ e. let l : k < r.0 = h.0 in absurd (omega arith))) ∙ none_above k rs h.1

module _ (k : ℕ) (d : ℕ × Option ValueType) where
  -- the record at the place of the key is the key's
  pub found_there : (rs : Records) → lows k rs < length rs → (get_or rs (lows k rs) d).0 ≡ k → lookup (◌==◌ k) rs ≡ Some (get_or rs (lows k rs) d).1
  found_there [] l e = absurd (omega arith)
  found_there (r ∷ rs) l e = at (nat_lt r.0 k) refl (found_there rs) l e
    where
      at : (b : Bool) → nat_lt r.0 k ≡ b → (lows k rs < length rs → (get_or rs (lows k rs) d).0 ≡ k → lookup (◌==◌ k) rs ≡ Some (get_or rs (lows k rs) d).1)
          → cond b (suc (lows k rs)) zero < length (r ∷ rs) → (get_or (r ∷ rs) (cond b (suc (lows k rs)) zero) d).0 ≡ k
          → cond (k == r.0) (Some r.1) (lookup (◌==◌ k) rs) ≡ Some (get_or (r ∷ rs) (cond b (suc (lows k rs)) zero) d).1
      at true w more l e = ap (λ b. cond b (Some r.1) (lookup (◌==◌ k) rs)) (other k r.0 (λ q. let s = ltb-true r.0 k w in absurd (omega arith))) ∙ more (omega arith) e
      at false w more l e = ap (λ b. cond b (Some r.1) (lookup (◌==◌ k) rs)) (eq-eqb k r.0 (sym e))

  -- where it isn't, there is none
  pub found_nowhere : (rs : Records) → Rises rs → (lows k rs < length rs → (get_or rs (lows k rs) d).0 ≡ k → ⊥) → lookup (◌==◌ k) rs ≡ None
  found_nowhere [] h n = refl
  found_nowhere (r ∷ rs) h n = at (nat_lt r.0 k) refl (found_nowhere rs h.1) n
    where
      at : (b : Bool) → nat_lt r.0 k ≡ b → ((lows k rs < length rs → (get_or rs (lows k rs) d).0 ≡ k → ⊥) → lookup (◌==◌ k) rs ≡ None)
          → (cond b (suc (lows k rs)) zero < length (r ∷ rs) → (get_or (r ∷ rs) (cond b (suc (lows k rs)) zero) d).0 ≡ k → ⊥) → cond (k == r.0) (Some r.1) (lookup (◌==◌ k) rs) ≡ None
      at true w more n = ap (λ b. cond b (Some r.1) (lookup (◌==◌ k) rs)) (other k r.0 (λ q. let s = ltb-true r.0 k w in absurd (omega arith))) ∙ more (λ l e. n (omega arith) e)
      at false w more n =
          let differ : k ≡ r.0 → ⊥ = λ e. n (omega arith) (sym e) in
          let up : k ≤ r.0 = ltb-false r.0 k w in
          ap (λ b. cond b (Some r.1) (lookup (◌==◌ k) rs)) (other k r.0 differ) ∙ none_above k rs (above_less k r.0 rs up h.0)

-- ---- the greatest record below a key

-- the record before the place
abbrev anchor_at : Anchor → Records → ℕ → Anchor
anchor_at a rs zero = a
anchor_at a [] (suc n) = a
anchor_at a (r ∷ rs) (suc n) = anchor_at (At r.0) rs n

not_below : (k : ℕ) (a : Anchor) (rs : Records) → Above k rs → anchor_from k a rs ≡ a
not_below k a [] h = refl
not_below k a (r ∷ rs) h = ap (λ b. anchor_from k (cond b (At r.0) a) rs) (le-ltb r.0 k (let l : k < r.0 = h.0 in omega arith)) ∙ not_below k a rs h.1

anchor_from-place : (k : ℕ) (a : Anchor) (rs : Records) → Rises rs → anchor_from k a rs ≡ anchor_at a rs (lows k rs)
anchor_from-place k a [] h = refl
anchor_from-place k a (r ∷ rs) h = at (nat_lt r.0 k) refl (anchor_from-place k (At r.0) rs h.1)
  where
    at : (b : Bool) → nat_lt r.0 k ≡ b → anchor_from k (At r.0) rs ≡ anchor_at (At r.0) rs (lows k rs) → anchor_from k (cond b (At r.0) a) rs ≡ anchor_at a (r ∷ rs) (cond b (suc (lows k rs)) zero)
    at true w more = more
    at false w more = not_below k a rs (above_less k r.0 rs (ltb-false r.0 k w) h.0)

anchor_at-suc : (a : Anchor) (rs : Records) (n : ℕ) (d : ℕ × Option ValueType) → n < length rs → anchor_at a rs (suc n) ≡ At (get_or rs n d).0
anchor_at-suc a [] n d l = absurd (omega arith)
anchor_at-suc a (r ∷ rs) zero d l = refl
anchor_at-suc a (r ∷ rs) (suc n) d l = anchor_at-suc (At r.0) rs n d (omega arith)

pub anchor_low : (k : ℕ) (rs : Records) → Rises rs → lows k rs ≡ 0 → Low ≡ lower_anchor k rs
anchor_low k rs h e = sym (anchor_from-place k Low rs h ∙ ap (anchor_at Low rs) e)

pub anchor_before : (k n : ℕ) (rs : Records) (d : ℕ × Option ValueType) → Rises rs → lows k rs ≡ suc n → n < length rs → At (get_or rs n d).0 ≡ lower_anchor k rs
anchor_before k n rs d h e l = sym (anchor_from-place k Low rs h ∙ (ap (anchor_at Low rs) e ∙ anchor_at-suc Low rs n d l))

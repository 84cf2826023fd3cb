-- What a going back leaves of the notes of writes.
use Rattle.std.proofs.Common.{◌≡◌, ◌∙◌, refl, sym, ap, ℕ, suc, ◌<◌, ◌≤◌, ◌==◌, nat_lt, nat_le, Bool, true, false, cond, not, ◌&&◌, ◌||◌, List, [], ◌∷◌, arith, filter, eqb-true, eq-eqb}
use Rattle.std.specs.Prelude.{is_some}
use Rattle.std.specs.List.{AllByRecursion}
use Rattle.std.specs.Map.{lookup}
use Rattle.std.proofs.lemmas.Bool.{both_ways, ne_eqb, lt-ltb, le-ltb, ltb-true, ltb-false, le-leb, leb-true}
use mathlib.Core.Logic.{dite}
use native.Mathlib.Decide.{ℕ_discrete}
use Rattle.cluster_turns.specs.Notes.{is_noted, is_above, notes_left}
use Rattle.cluster_turns.specs.States.{AreTouched}

-- ---- on one shard

no_note : (b c rest : Bool) → ((b && c) || rest) ≡ false → ((b && c) ≡ false) × (rest ≡ false)
no_note true true rest h = absurd (both_ways true h refl)
no_note true false rest h = (refl, h)
no_note false c rest h = (refl, h)

-- where none is noted there all are left
pub none_left : (n upto : ℕ) (ws : List (ℕ × ℕ)) → is_noted n upto ws ≡ false → notes_left n upto ws ≡ ws
none_left n upto [] h = refl
none_left n upto (w ∷ ws) h =
    let k = no_note (w.0 == n) (nat_lt upto w.1) (is_noted n upto ws) h in
    ap (λ b. cond (not b) (w ∷ notes_left n upto ws) (notes_left n upto ws)) k.0 ∙ ap (λ l. w ∷ l) (none_left n upto ws k.1)

pub noted_touched : (n upto : ℕ) (ts ws : List (ℕ × ℕ)) → AreTouched ts ws → is_noted n upto ws ≡ true → is_some (lookup (◌==◌ n) ts) ≡ true
noted_touched n upto ts [] a h = absurd (both_ways false refl h)
noted_touched n upto ts (w ∷ ws) a h = at (w.0 == n) refl (noted_touched n upto ts ws a.1)
  where
    at : (b : Bool) → (w.0 == n) ≡ b → (is_noted n upto ws ≡ true → is_some (lookup (◌==◌ n) ts) ≡ true) → is_some (lookup (◌==◌ n) ts) ≡ true
    at true e rest = ap (λ k. is_some (lookup (◌==◌ k) ts)) (sym (eqb-true w.0 n e)) ∙ a.0
    at false e rest = rest (sym (ap (λ b. (b && nat_lt upto w.1) || is_noted n upto ws) e) ∙ h)

-- one that is noted somewhere is above
pub noted_above : (n upto : ℕ) (ws : List (ℕ × ℕ)) → is_noted n upto ws ≡ true → is_above upto ws ≡ true
noted_above n upto [] h = absurd (both_ways false refl h)
noted_above n upto (w ∷ ws) h = at (nat_lt upto w.1) refl (noted_above n upto ws)
  where
    none : (b : Bool) → (b && false) ≡ false
    none true = refl
    none false = refl

    at : (c : Bool) → nat_lt upto w.1 ≡ c → (is_noted n upto ws ≡ true → is_above upto ws ≡ true) → is_above upto (w ∷ ws) ≡ true
    at true e rest = ap (λ b. b || is_above upto ws) e
    at false e rest =
        ap (λ b. b || is_above upto ws) e ∙ rest (sym (ap (λ b. ((w.0 == n) && b) || is_noted n upto ws) e ∙ ap (λ b. b || is_noted n upto ws) (none (w.0 == n))) ∙ h)

-- ---- on the shards below n

abbrev pub is_kept : ℕ → ℕ → ℕ × ℕ → Bool
is_kept n upto w = not (nat_lt w.0 n && nat_lt upto w.1)

abbrev pub kept_below : ℕ → ℕ → List (ℕ × ℕ) → List (ℕ × ℕ)
kept_below n upto ws = filter (is_kept n upto) ws

pub kept_all : (upto : ℕ) (ws : List (ℕ × ℕ)) → kept_below 0 upto ws ≡ ws
kept_all upto [] = refl
kept_all upto (w ∷ ws) =
    ap (λ b. cond (not (b && nat_lt upto w.1)) (w ∷ kept_below 0 upto ws) (kept_below 0 upto ws)) (le-ltb w.0 0 (omega arith)) ∙ ap (λ l. w ∷ l) (kept_all upto ws)

-- the notes of a shard from n on stay
pub kept_noted : (n k upto : ℕ) (ws : List (ℕ × ℕ)) → n ≤ k → is_noted k upto (kept_below n upto ws) ≡ is_noted k upto ws
kept_noted n k upto [] l = refl
kept_noted n k upto (w ∷ ws) l = at (nat_lt w.0 n) (nat_lt upto w.1) refl refl (kept_noted n k upto ws l)
  where
    rest : List (ℕ × ℕ)
    rest = kept_below n upto ws

    at : (b c : Bool) → nat_lt w.0 n ≡ b → nat_lt upto w.1 ≡ c → is_noted k upto rest ≡ is_noted k upto ws → is_noted k upto (cond (not (b && c)) (w ∷ rest) rest) ≡ is_noted k upto (w ∷ ws)
    at true true e f h =
        let low = ltb-true w.0 n e in
        h ∙ sym (ap (λ b. (b && nat_lt upto w.1) || is_noted k upto ws) (ne_eqb w.0 k (λ same. absurd (omega arith))))
    at true false e f h = ap (λ x. ((w.0 == k) && nat_lt upto w.1) || x) h
    at false c e f h = ap (λ x. ((w.0 == k) && nat_lt upto w.1) || x) h

next_shard : (m n : ℕ) (b : Bool) → (m == n) ≡ b → nat_lt m n ≡ false → nat_lt m (suc n) ≡ b
next_shard m n true e f = let same = eqb-true m n e in lt-ltb m (suc n) (omega arith)
next_shard m n false e f = let l = ltb-false m n f in le-ltb m (suc n) (above (m == n) e)
  where
    above : (b : Bool) → (m == n) ≡ false → suc n ≤ m
    above b apart = dite (ℕ_discrete m n) (λ same. absurd (both_ways (m == n) apart (eq-eqb m n same))) (λ other. let l = ltb-false m n f in omega arith)

-- and those of shard n go with it
pub kept_more : (n upto : ℕ) (ws : List (ℕ × ℕ)) → notes_left n upto (kept_below n upto ws) ≡ kept_below (suc n) upto ws
kept_more n upto [] = refl
kept_more n upto (w ∷ ws) = at (nat_lt w.0 n) (nat_lt upto w.1) refl refl (kept_more n upto ws)
  where
    rest : List (ℕ × ℕ)
    rest = kept_below n upto ws

    more : List (ℕ × ℕ)
    more = kept_below (suc n) upto ws

    kept : (b : Bool) → (w.0 == n) ≡ b → nat_lt w.0 (suc n) ≡ b → nat_lt upto w.1 ≡ true → notes_left n upto rest ≡ more
        → cond (not ((w.0 == n) && nat_lt upto w.1)) (w ∷ notes_left n upto rest) (notes_left n upto rest) ≡ cond (not (nat_lt w.0 (suc n) && nat_lt upto w.1)) (w ∷ more) more
    kept b e f c h =
        ap (λ x. cond (not (x && nat_lt upto w.1)) (w ∷ notes_left n upto rest) (notes_left n upto rest)) e ∙ ap (λ l. cond (not (b && nat_lt upto w.1)) (w ∷ l) l) h
        ∙ sym (ap (λ x. cond (not (x && nat_lt upto w.1)) (w ∷ more) more) f)

    and_no : (b : Bool) → nat_lt upto w.1 ≡ false → (b && nat_lt upto w.1) ≡ false
    and_no true c = c
    and_no false c = refl

    whole : nat_lt upto w.1 ≡ false → notes_left n upto rest ≡ more → notes_left n upto (w ∷ rest) ≡ cond (not (nat_lt w.0 (suc n) && nat_lt upto w.1)) (w ∷ more) more
    whole f h =
        ap (λ x. cond (not x) (w ∷ notes_left n upto rest) (notes_left n upto rest)) (and_no (w.0 == n) f) ∙ ap (λ l. w ∷ l) h
        ∙ sym (ap (λ x. cond (not x) (w ∷ more) more) (and_no (nat_lt w.0 (suc n)) f))

    at : (b c : Bool) → nat_lt w.0 n ≡ b → nat_lt upto w.1 ≡ c → notes_left n upto rest ≡ more
        → notes_left n upto (cond (not (b && c)) (w ∷ rest) rest) ≡ cond (not (nat_lt w.0 (suc n) && nat_lt upto w.1)) (w ∷ more) more
    at true true e f h =
        let l = ltb-true w.0 n e in
        h ∙ sym (ap (λ x. cond (not (x && nat_lt upto w.1)) (w ∷ more) more) (lt-ltb w.0 (suc n) (omega arith)) ∙ ap (λ x. cond (not x) (w ∷ more) more) f)
    at false true e f h = kept (w.0 == n) refl (next_shard w.0 n (w.0 == n) refl e) f h
    at true false e f h = whole f h
    at false false e f h = whole f h

-- ---- on all shards

turned : (a b : ℕ) → not (nat_lt a b) ≡ nat_le b a
turned a b = at (nat_lt a b) (nat_le b a) refl refl
  where
    at : (x y : Bool) → nat_lt a b ≡ x → nat_le b a ≡ y → not x ≡ y
    at true true e f = let l = ltb-true a b e in let k = leb-true b a f in absurd (omega arith)
    at true false e f = refl
    at false true e f = refl
    at false false e f = absurd (both_ways (nat_le b a) f (le-leb b a (ltb-false a b e)))

pub kept_early : (count upto : ℕ) (ws : List (ℕ × ℕ)) → AllByRecursion (λ w. w.0 < count) ws → kept_below count upto ws ≡ filter (λ w. nat_le w.1 upto) ws
kept_early count upto [] h = refl
kept_early count upto (w ∷ ws) h =
    ap (λ l. cond (is_kept count upto w) (w ∷ l) l) (kept_early count upto ws h.1)
    ∙ ap (λ b. cond b (w ∷ filter (λ x. nat_le x.1 upto) ws) (filter (λ x. nat_le x.1 upto) ws)) (ap (λ b. not (b && nat_lt upto w.1)) (lt-ltb w.0 count h.0) ∙ turned upto w.1)

pub early_none : (upto : ℕ) (ws : List (ℕ × ℕ)) → is_above upto (filter (λ w. nat_le w.1 upto) ws) ≡ false
early_none upto [] = refl
early_none upto (w ∷ ws) = at (nat_le w.1 upto) refl (early_none upto ws)
  where
    rest : List (ℕ × ℕ)
    rest = filter (λ x. nat_le x.1 upto) ws

    at : (b : Bool) → nat_le w.1 upto ≡ b → is_above upto rest ≡ false → is_above upto (cond b (w ∷ rest) rest) ≡ false
    at true e h = ap (λ x. x || is_above upto rest) (le-ltb upto w.1 (leb-true w.1 upto e)) ∙ h
    at false e h = h

-- where none is above all are early
pub none_above_early : (upto : ℕ) (ws : List (ℕ × ℕ)) → is_above upto ws ≡ false → filter (λ w. nat_le w.1 upto) ws ≡ ws
none_above_early upto [] h = refl
none_above_early upto (w ∷ ws) h = at (nat_lt upto w.1) refl (none_above_early upto ws)
  where
    rest : List (ℕ × ℕ)
    rest = filter (λ x. nat_le x.1 upto) ws

    at : (b : Bool) → nat_lt upto w.1 ≡ b → (is_above upto ws ≡ false → rest ≡ ws) → cond (nat_le w.1 upto) (w ∷ rest) rest ≡ w ∷ ws
    at true e k = absurd (both_ways (is_above upto (w ∷ ws)) h (ap (λ b. b || is_above upto ws) e))
    at false e k = ap (λ b. cond b (w ∷ rest) rest) (le-leb w.1 upto (ltb-false upto w.1 e)) ∙ ap (λ l. w ∷ l) (k (sym (ap (λ b. b || is_above upto ws) e) ∙ h))

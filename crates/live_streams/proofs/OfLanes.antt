-- Of replies of all lanes, those of one.
use Rattle.std.proofs.Common.{◌≡◌, refl, sym, ap, subst, ℕ, Bool, true, false, if◌then◌else◌, ◌==◌, List, [], ◌∷◌, ◌++◌, map, eq-eqb}
use Rattle.std.proofs.lemmas.Bool.{ne_eqb}
use Rattle.live_lines.specs.declared.calls.Reply.{Reply}
use Rattle.live_streams.specs.Outputs.{of_lane}
use Rattle.live_streams.proofs.Lines.{as_one}

-- these replies, each with its lane
abbrev pub with_lane : ℕ → List Reply → List (ℕ × Reply)
with_lane lane rs = map {B = ℕ × Reply} (λ r. (lane, r)) rs

pub with_lane-last : (lane : ℕ) (rs : List Reply) (r : Reply) → with_lane lane (rs ++ r ∷ []) ≡ with_lane lane rs ++ (lane, r) ∷ []
with_lane-last lane rs r = as_one lane rs r

kept_on : (t : Bool) (r : Reply) (u v w : List Reply) → u ≡ v ++ w → (if t then r ∷ u else u) ≡ (if t then r ∷ v else v) ++ w
kept_on true r u v w e = ap (λ l. r ∷ l) e
kept_on false r u v w e = e

-- those of two lists are those of both
pub of_lane-append : (k : ℕ) (a b : List (ℕ × Reply)) → of_lane k (a ++ b) ≡ of_lane k a ++ of_lane k b
of_lane-append k [] b = refl
of_lane-append k ((j, r) ∷ a) b = kept_on (j == k) r (of_lane k (a ++ b)) (of_lane k a) (of_lane k b) (of_lane-append k a b)

-- a lane has all of its own, and no other has any of them
pub of_lane-own : (k : ℕ) (rs : List Reply) → of_lane k (with_lane k rs) ≡ rs
of_lane-own k [] = refl
of_lane-own k (r ∷ rs) = subst (λ (t : Bool). (if t then r ∷ of_lane k (with_lane k rs) else of_lane k (with_lane k rs)) ≡ r ∷ rs) (sym (eq-eqb k k refl)) (ap (λ l. r ∷ l) (of_lane-own k rs))

pub of_lane-other : (j k : ℕ) (rs : List Reply) → (j ≡ k → ⊥) → of_lane k (with_lane j rs) ≡ []
of_lane-other j k [] other = refl
of_lane-other j k (r ∷ rs) other = subst (λ (t : Bool). (if t then r ∷ of_lane k (with_lane j rs) else of_lane k (with_lane j rs)) ≡ []) (sym (ne_eqb j k other)) (of_lane-other j k rs other)

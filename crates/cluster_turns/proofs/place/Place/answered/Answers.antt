use Rattle.std.proofs.Common.{ℕ, suc, List, sym, subst}
use Rattle.cluster_turns.specs.Notes.{FallFrom}
use Rattle.cluster_turns.proofs.Noting.{falls_rest}
use Rattle.cluster_turns.proofs.place.Place.answered.Goals as goal

pub invariant_of-self : goal.invariant_of-self
invariant_of-self c =
    let P : List (ℕ × ℕ) → Type 0 = λ ws. FallFrom (suc c.self.inside.nth) ws in
    (subst P (sym c.pop.ensures) (falls_rest (suc c.self.inside.nth) c.self.inside.written c.self.invariant.0), c.self.invariant.1)

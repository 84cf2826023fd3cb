use Rattle.std.proofs.Common.{ℕ, suc, List, sym, subst}
use Rattle.cluster_turns.specs.Notes.{FallFrom, is_left}
use Rattle.cluster_turns.proofs.Noting.{falls_kept}
use Rattle.cluster_turns.proofs.place.Place.rolled.Goals as goal

pub invariant_of-self : goal.invariant_of-self
invariant_of-self c =
    let P : List (ℕ × ℕ) → Type 0 = λ ws. FallFrom (suc c.self.inside.nth) ws in (
      subst P (sym c.take_away.ensures) (falls_kept (is_left c.args.shard c.args.upto) (suc c.self.inside.nth) c.self.inside.written c.self.invariant.0),
      c.self.invariant.1,
    )

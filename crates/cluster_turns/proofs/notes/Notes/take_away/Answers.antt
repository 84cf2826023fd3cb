use Rattle.std.proofs.Common.{ℕ, ◌∙◌, List, sym, ap, subst, reverse}
use Rattle.cluster_turns.specs.Notes.{AreFalling, is_left, notes_left}
use Rattle.cluster_turns.proofs.Noting.{falling_kept, reversed_left}
use Rattle.cluster_turns.proofs.notes.Notes.take_away.Goals as goal

pub invariant_of-self : goal.invariant_of-self
invariant_of-self c =
    let P : List (ℕ × ℕ) → Type 0 = λ ws. AreFalling ws in
    subst P (sym (reversed_left c.args.shard c.args.upto c.self.inside.items.items) ∙ sym (ap reverse c.take_from.ensures))
    (falling_kept (is_left c.args.shard c.args.upto) (reverse c.self.inside.items.items) c.self.invariant)

pub returns : goal.returns
returns c = ap reverse c.take_from.ensures ∙ reversed_left c.args.shard c.args.upto c.self.inside.items.items ∙ ap (notes_left c.args.shard c.args.upto) c.self.view_is

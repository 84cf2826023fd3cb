use Rattle.std.proofs.Common.{ℕ, ◌≡◌, List, subst, length, arith, rules}
use Rattle.cluster_turns.specs.Notes.{AreFalling}
use Rattle.cluster_turns.proofs.Noting.{above_behind, read_behind, long_behind}
use Rattle.cluster_turns.proofs.notes.Notes.is_above.Goals as goal

pub returns-then-aside-count : goal.returns-then-aside-count
returns-then-aside-count c =
    let count : c.len-count.result ≡ length c.self.inside.items.items = search rules in
    let long = long_behind c.self.inside.items.items c.args.self.now c.self.view_is in
    let P : List (ℕ × ℕ) → Type 0 = λ ws. AreFalling ws in
    above_behind c.args.upto c.args.aside c.args.self.now c.index.result.now (subst P c.self.view_is c.self.invariant) (omega arith)
    (read_behind c.self.inside.items.items c.args.self.now c.args.aside c.len-count.result c.index.result.now c.self.view_is count c.if-aside-count.true c.index.ensures)

use Rattle.std.proofs.Common.{ℕ, ◌≡◌, ◌∙◌, List, sym, subst, drop, add-one, arith}
use Rattle.std.proofs.lemmas.Bool.{ne_eqb, eq-eqb}
use Rattle.cluster_turns.specs.Notes.{AreFalling, is_noted}
use Rattle.cluster_turns.proofs.Noting.{read_behind, long_behind, noted_none, noted_here, noted_on}
use Rattle.cluster_turns.proofs.notes.Notes.is_on.Goals as goal

pub returns-then-note-upto : goal.returns-then-note-upto
returns-then-note-upto c =
    let is = c.self.view_is in let i = c.loop-behind.invariant in let long = long_behind c.self.inside.items.items c.args.self.now is in
    let P : List (ℕ × ℕ) → Type 0 = λ ws. AreFalling ws in
    sym (i.0 ∙ noted_none c.args.shard c.args.upto c.loop-behind.behind c.args.self.now c.index-note.result.now (subst P is c.self.invariant) (omega arith)
    (read_behind c.self.inside.items.items c.args.self.now c.loop-behind.behind c.len-count.result c.index-note.result.now is (i.1 ∙ long) (omega arith) c.index-note.ensures) c.if-note-upto.true)

pub returns-then-note-shard : goal.returns-then-note-shard
returns-then-note-shard c =
    let is = c.self.view_is in let i = c.loop-behind.invariant in let long = long_behind c.self.inside.items.items c.args.self.now is in
    sym (i.0 ∙ noted_here c.args.shard c.args.upto c.loop-behind.behind c.args.self.now c.index-note.result.now (omega arith)
    (read_behind c.self.inside.items.items c.args.self.now c.loop-behind.behind c.len-count.result c.index-note.result.now is (i.1 ∙ long) (omega arith) c.index-note.ensures)
    c.if-note-upto.false (eq-eqb (c.index-note.result.now).0 c.args.shard c.if-note-shard.true))

pub loop-behind-preserved : goal.loop-behind-preserved
loop-behind-preserved c =
    let is = c.self.view_is in let i = c.loop-behind.invariant in let long = long_behind c.self.inside.items.items c.args.self.now is in
    let P : ℕ → Type 0 = λ k. is_noted c.args.shard c.args.upto c.args.self.now ≡ is_noted c.args.shard c.args.upto (drop k c.args.self.now) in (
      subst P (sym (add-one c.loop-behind.behind)) (i.0 ∙ noted_on c.args.shard c.args.upto c.loop-behind.behind c.args.self.now c.index-note.result.now (omega arith)
          (read_behind c.self.inside.items.items c.args.self.now c.loop-behind.behind c.len-count.result c.index-note.result.now is (i.1 ∙ long) (omega arith) c.index-note.ensures)
          (ne_eqb (c.index-note.result.now).0 c.args.shard c.if-note-shard.false)),
      i.1,
    )

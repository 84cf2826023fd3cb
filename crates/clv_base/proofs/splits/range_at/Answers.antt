use Rattle.std.proofs.Common.{◌-◌, sym, ◌∙◌, ap, arith}
use Rattle.clv_base.proofs.Spans.{start, start_at, past_all, at_last, at_next, none_next}
use Rattle.clv_base.proofs.splits.range_at.Goals.{then-place-eq0, else-place-eq0}
use Rattle.clv_base.proofs.splits.range_at.Goals as goal

pub returns-then-place-splits : goal.returns-then-place-splits
returns-then-place-splits c = past_all c.args.splits.now c.args.place c.if-place-splits.true

pub returns-then-place-splits-2 : goal.returns-then-place-splits-2
returns-then-place-splits-2 c =
    at_last c.args.splits.now c.args.place c.if-place-eq0.first c.if-place-splits-2.true
    (elim c.if-place-eq0.branch [
      | then-place-eq0 w ↦ w.first-is ∙ ap (start c.args.splits.now) (sym w.if-place-eq0.true)
      | else-place-eq0 w ↦ w.first-is ∙ start_at c.args.splits.now c.args.place c.if-place-splits.false w.if-place-eq0.false
    ])
    (elim c.if-place-eq0.branch [ then-place-eq0 w ↦ omega arith | else-place-eq0 w ↦ let f = c.type_inv.splits (c.args.place - 1) in omega (arith, f) ])

pub returns-then-first-next : goal.returns-then-first-next
returns-then-first-next c =
    at_next c.args.splits.now c.args.place c.if-place-eq0.first (omega arith)
    (elim c.if-place-eq0.branch [
      | then-place-eq0 w ↦ w.first-is ∙ ap (start c.args.splits.now) (sym w.if-place-eq0.true)
      | else-place-eq0 w ↦ w.first-is ∙ start_at c.args.splits.now c.args.place c.if-place-splits.false w.if-place-eq0.false
    ])
    c.if-first-next.true

pub returns-else-first-next : goal.returns-else-first-next
returns-else-first-next c =
    none_next c.args.splits.now c.args.place c.if-place-eq0.first (omega arith)
    (elim c.if-place-eq0.branch [
      | then-place-eq0 w ↦ w.first-is ∙ ap (start c.args.splits.now) (sym w.if-place-eq0.true)
      | else-place-eq0 w ↦ w.first-is ∙ start_at c.args.splits.now c.args.place c.if-place-splits.false w.if-place-eq0.false
    ])
    c.if-first-next.false

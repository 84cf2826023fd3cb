use Rattle.std.proofs.Common.{◌∙◌, sym, subst, arith, refl, ◌+◌}
use Rattle.session_ops.specs.Dropped.{Dropping}
use Rattle.session_ops.proofs.Parting.{nothing_dropped, drops_follow, same_but_self, same_but_follow, same_tx, same_touched}
use Rattle.session_ops.proofs.leaving.drop_parts.Goals as goal

pub loop-shard-init : goal.loop-shard-init
loop-shard-init g c = let w = c.args.walker.now in let p = c.args.place.now in
    (c.requires.ending, (refl, refl), same_but_self p, nothing_dropped w.number w.clock w.passes.items p.tx p.touched c.args.except 0 0 tt (λ k l u h. (omega arith)))

pub loop-shard-preserved : goal.loop-shard-preserved
loop-shard-preserved g c = let w = c.args.walker.now in let u = c.loop-shard.walker in let v = c.drop_on-one.new.walker in let p = c.args.place.now in let q = c.loop-shard.place in let i = c.loop-shard.invariant in let e = c.drop_on-one.ensures in let n = c.loop-shard.shard in (
  e.stands,
  (e.walker.0 ∙ i.1.0, e.walker.1 ∙ i.1.1),
  same_but_follow p q c.drop_on-one.new.place i.2 e.place,
  subst (λ r. Dropping w.number w.clock w.passes.items p.tx p.touched c.args.except 0 (n + 1) r v.clock v.passes.items) (sym c.first_worn-answer.ensures)
      (drops_follow w.number w.clock u.clock v.clock w.passes.items u.passes.items v.passes.items p.tx p.touched c.args.except 0 n (n + 1) c.loop-shard.answer c.drop_on-one.result i.3
      (subst (λ k. Dropping k u.clock u.passes.items p.tx p.touched c.args.except n (n + 1) c.drop_on-one.result v.clock v.passes.items) i.1.0
      (subst (λ x. Dropping u.number u.clock u.passes.items x p.touched c.args.except n (n + 1) c.drop_on-one.result v.clock v.passes.items) (same_tx p q i.2)
      (subst (λ x. Dropping u.number u.clock u.passes.items q.tx x c.args.except n (n + 1) c.drop_on-one.result v.clock v.passes.items) (same_touched p q i.2) e.drops)))),
)

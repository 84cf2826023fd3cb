use Rattle.std.proofs.Common.{◌∙◌, Some, Ok, Err, refl, ap, subst}
use Rattle.std.specs.Prelude.{◌==◌}
use Rattle.std.specs.Map.{lookup}
use Rattle.clv_base.specs.declared.events.Event.TheVariants.{Op}
use Rattle.clv_base.specs.Sessions.{SessionState}
use Rattle.session_ops.specs.declared.operating.OpError.TheVariants.{Memory}
use Rattle.session_ops.specs.Operated.{Operated, PlacedBy, StandsBy}
use Rattle.session_ops.proofs.Trying.{none_tried, some_tried, more_tried}
use Rattle.session_ops.proofs.operating.operate.Goals as goal

pub loop-init : goal.loop-init
loop-init g c = let w = c.args.walker.now in let n = c.args.shard in let p = c.args.place.now in
    (c.requires.active, (refl, refl), refl, λ birth is. none_tried w.number w.clock w.passes.items n (Op p.tx birth c.args.nth (lookup (◌==◌ n) p.touched) c.args.op.now))

pub returns-in-Ok-Some-clause-turns : goal.returns-in-Ok-Some-clause-turns
returns-in-Ok-Some-clause-turns g c birth is = let w = c.args.walker.now in let u = c.loop.walker in let v = c.try_and_pass.new.walker in let n = c.args.shard in let p = c.args.place.now in let i = c.loop.invariant in
    more_tried w u v n c.args.nth c.args.op.now birth p c.loop.place (Err Memory) (Ok (Some c.in-Ok-Some.answer)) i.1.0 i.2 (i.3 birth is)
    (subst (λ o. Operated u.number u.clock u.passes.items n (Op c.loop.place.tx birth c.args.nth (lookup (◌==◌ n) c.loop.place.touched) c.args.op.now) (Ok o) v.clock v.passes.items) c.in-Ok-Some.field-0-is
    (c.in-Ok-Some.ensures.turns birth (ap (λ (q : SessionState). q.birth) i.2 ∙ is)))

pub returns-in-Err-clause-turns : goal.returns-in-Err-clause-turns
returns-in-Err-clause-turns g c birth is = let w = c.args.walker.now in let u = c.loop.walker in let v = c.try_and_pass.new.walker in let n = c.args.shard in let p = c.args.place.now in let i = c.loop.invariant in
    more_tried w u v n c.args.nth c.args.op.now birth p c.loop.place (Err Memory) (Err c.in-Err.error) i.1.0 i.2 (i.3 birth is) (c.in-Err.ensures.turns birth (ap (λ (q : SessionState). q.birth) i.2 ∙ is))

pub loop-preserved-in-Ok-None : goal.loop-preserved-in-Ok-None
loop-preserved-in-Ok-None g c = let w = c.args.walker.now in let u = c.loop.walker in let v = c.try_and_pass.new.walker in let n = c.args.shard in let p = c.args.place.now in let i = c.loop.invariant in let e = c.in-Ok-None.ensures in (
  e.stands,
  (e.walker.0 ∙ i.1.0, e.walker.1 ∙ i.1.1),
  subst (λ o. PlacedBy n c.args.nth c.args.op.now c.loop.place (Ok o) c.try_and_pass.new.place) c.in-Ok-None.field-0-is e.place ∙ i.2,
  λ birth is. some_tried w.number w.clock v.clock w.passes.items v.passes.items n (Op p.tx birth c.args.nth (lookup (◌==◌ n) p.touched) c.args.op.now) (Ok c.in-Ok-None.field-0)
      (more_tried w u v n c.args.nth c.args.op.now birth p c.loop.place (Err Memory) (Ok c.in-Ok-None.field-0) i.1.0 i.2 (i.3 birth is) (e.turns birth (ap (λ (q : SessionState). q.birth) i.2 ∙ is))),
)

pub returns-then-not-bears-clause-turns : goal.returns-then-not-bears-clause-turns
returns-then-not-bears-clause-turns g c birth is = let w = c.args.walker.now in let u = c.loop.walker in let v = c.try_and_pass.new.walker in let n = c.args.shard in let p = c.args.place.now in let i = c.loop.invariant in let t = c.in-Err-Down in
    subst (λ x. Operated w.number w.clock w.passes.items n (Op p.tx birth c.args.nth (lookup (◌==◌ n) p.touched) c.args.op.now) (Err x) v.clock v.passes.items) t.field-0-is
    (more_tried w u v n c.args.nth c.args.op.now birth p c.loop.place (Err Memory) (Err t.field-0) i.1.0 i.2 (i.3 birth is) (t.ensures.turns birth (ap (λ (q : SessionState). q.birth) i.2 ∙ is)))

pub loop-preserved : goal.loop-preserved
loop-preserved g c = let w = c.args.walker.now in let u = c.loop.walker in let v = c.try_and_pass.new.walker in let n = c.args.shard in let p = c.args.place.now in let i = c.loop.invariant in let t = c.in-Err-Down in let e = t.ensures in (
  subst (λ x. StandsBy n c.args.shards.now v c.try_and_pass.new.place (Err x)) t.field-0-is e.stands,
  (e.walker.0 ∙ i.1.0, e.walker.1 ∙ i.1.1),
  subst (λ x. PlacedBy n c.args.nth c.args.op.now c.loop.place (Err x) c.try_and_pass.new.place) t.field-0-is e.place ∙ i.2,
  λ birth is. some_tried w.number w.clock v.clock w.passes.items v.passes.items n (Op p.tx birth c.args.nth (lookup (◌==◌ n) p.touched) c.args.op.now) (Err t.field-0)
      (more_tried w u v n c.args.nth c.args.op.now birth p c.loop.place (Err Memory) (Err t.field-0) i.1.0 i.2 (i.3 birth is) (e.turns birth (ap (λ (q : SessionState). q.birth) i.2 ∙ is))),
)

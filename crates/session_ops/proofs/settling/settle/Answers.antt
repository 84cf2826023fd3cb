use Rattle.std.proofs.Common.{◌∙◌, length, Some, Ok, Err, refl, subst}
use Rattle.session_ops.specs.declared.settled_looking.SettleError.TheVariants.{Memory}
use Rattle.session_ops.specs.Settled.{Settling, PlacedBy, StandsBy}
use Rattle.session_ops.proofs.EndSeeing.{none_settled, some_settled, more_settled}
use Rattle.session_ops.proofs.settling.settle.Goals as goal

pub loop-init : goal.loop-init
loop-init g c = let w = c.args.walker.now in (c.requires.standing, (refl, refl), refl, none_settled (length c.args.shards.now.locks.items) w.number w.clock w.passes.items c.args.home c.args.place.now)

pub returns-in-Ok-Some-clause-turns : goal.returns-in-Ok-Some-clause-turns
returns-in-Ok-Some-clause-turns g c = let w = c.args.walker.now in let u = c.loop.walker in let v = c.try_once.new.walker in let n = c.args.home in let p = c.args.place.now in let i = c.loop.invariant in let count = length c.args.shards.now.locks.items in
    more_settled count w u v n p c.loop.place (Err Memory) (Ok (Some c.in-Ok-Some.point)) i.1.0 i.2 i.3
    (subst (λ o. Settling count u.number u.clock u.passes.items n c.loop.place (Ok o) v.clock v.passes.items) c.in-Ok-Some.field-0-is c.in-Ok-Some.ensures.turns)

pub returns-in-Err-clause-turns : goal.returns-in-Err-clause-turns
returns-in-Err-clause-turns g c = let w = c.args.walker.now in let u = c.loop.walker in let v = c.try_once.new.walker in let n = c.args.home in let p = c.args.place.now in let i = c.loop.invariant in let count = length c.args.shards.now.locks.items in
    more_settled count w u v n p c.loop.place (Err Memory) (Err c.in-Err.error) i.1.0 i.2 i.3 c.in-Err.ensures.turns

pub loop-preserved-in-Ok-None : goal.loop-preserved-in-Ok-None
loop-preserved-in-Ok-None g c = let w = c.args.walker.now in let u = c.loop.walker in let v = c.try_once.new.walker in let n = c.args.home in let p = c.args.place.now in let i = c.loop.invariant in let count = length c.args.shards.now.locks.items in let e = c.in-Ok-None.ensures in (
  subst (λ o. StandsBy c.args.shards.now v c.try_once.new.place n (Ok o)) c.in-Ok-None.field-0-is e.stands,
  (e.walker.0 ∙ i.1.0, e.walker.1 ∙ i.1.1),
  subst (λ o. PlacedBy c.loop.place (Ok o) c.try_once.new.place) c.in-Ok-None.field-0-is e.place ∙ i.2,
  some_settled count w.number w.clock v.clock w.passes.items v.passes.items n p (Ok c.in-Ok-None.field-0) (more_settled count w u v n p c.loop.place (Err Memory) (Ok c.in-Ok-None.field-0) i.1.0 i.2 i.3 e.turns),
)

pub returns-then-not-bears-clause-turns : goal.returns-then-not-bears-clause-turns
returns-then-not-bears-clause-turns g c = let w = c.args.walker.now in let u = c.loop.walker in let v = c.try_once.new.walker in let n = c.args.home in let p = c.args.place.now in let i = c.loop.invariant in let count = length c.args.shards.now.locks.items in let t = c.in-Err-Unsettled in
    subst (λ x. Settling count w.number w.clock w.passes.items n p (Err x) v.clock v.passes.items) t.field-0-is
    (more_settled count w u v n p c.loop.place (Err Memory) (Err t.field-0) i.1.0 i.2 i.3 t.ensures.turns)

pub loop-preserved : goal.loop-preserved
loop-preserved g c = let w = c.args.walker.now in let u = c.loop.walker in let v = c.try_once.new.walker in let n = c.args.home in let p = c.args.place.now in let i = c.loop.invariant in let count = length c.args.shards.now.locks.items in let t = c.in-Err-Unsettled in let e = t.ensures in (
  subst (λ x. StandsBy c.args.shards.now v c.try_once.new.place n (Err x)) t.field-0-is e.stands,
  (e.walker.0 ∙ i.1.0, e.walker.1 ∙ i.1.1),
  subst (λ x. PlacedBy c.loop.place (Err x) c.try_once.new.place) t.field-0-is e.place ∙ i.2,
  some_settled count w.number w.clock v.clock w.passes.items v.passes.items n p (Err t.field-0) (more_settled count w u v n p c.loop.place (Err Memory) (Err t.field-0) i.1.0 i.2 i.3 e.turns),
)

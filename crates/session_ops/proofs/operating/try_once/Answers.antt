use Rattle.std.proofs.Common.{◌≡◌, true, sym, subst}
use Rattle.std.specs.Prelude.{◌==◌}
use Rattle.std.specs.Map.{lookup}
use Rattle.clv_base.specs.declared.events.Event.TheVariants.{Op}
use Rattle.session_ops.specs.Standing.{is_op_outcome}
use Rattle.session_ops.specs.Operated.{tried, Operated, PlacedBy, StandsBy}
use Rattle.session_ops.proofs.Trying.{tried_once, tried_placed, tried_stands}
use Rattle.session_ops.proofs.operating.try_once.Goals as goal
use Rattle.law_base.proofs.Options.{if_ok}

pub returns-clause-turns : goal.returns-clause-turns
returns-clause-turns g c birth is = let w = c.args.walker.now in let v = c.ask-answer.new.walker in let n = c.args.shard in let p = c.args.place.now in let r = c.ask-answer.result in
    subst (λ x. Operated w.number w.clock w.passes.items n (Op p.tx birth c.args.nth (lookup (◌==◌ n) p.touched) c.args.op.now) x v.clock v.passes.items) (sym c.tried_by.ensures)
    (tried_once w.number w.clock v.clock w.passes.items v.passes.items n (Op p.tx birth c.args.nth (lookup (◌==◌ n) p.touched) c.args.op.now) r (λ o same. if_ok (λ z. is_op_outcome z ≡ true) r c.ask-answer.ensures.outcome o same) (c.ask-answer.ensures.turn birth is))

pub returns-clause-place : goal.returns-clause-place
returns-clause-place g c = let n = c.args.shard in let p = c.args.place.now in let r = c.ask-answer.result in
    subst (λ x. PlacedBy n c.args.nth c.args.op.now p x c.ask-answer.new.place) (sym c.tried_by.ensures)
    (subst (λ q. PlacedBy n c.args.nth c.args.op.now p (tried n r) q) (sym c.ask-answer.ensures.place) (tried_placed n c.args.nth c.args.op.now p r))

pub returns-clause-stands : goal.returns-clause-stands
returns-clause-stands g c = let v = c.ask-answer.new.walker in let q = c.ask-answer.new.place in let r = c.ask-answer.result in
    subst (λ x. StandsBy c.args.shard c.args.shards.now v q x) (sym c.tried_by.ensures) (tried_stands c.args.shards.now v c.args.shard q r c.ask-answer.ensures.stands)

use Rattle.std.proofs.Common.{◌≡◌, true, length, sym, subst}
use Rattle.session_ops.specs.Looked.{is_look_outcome}
use Rattle.session_ops.specs.Settled.{Settling, PlacedBy, StandsBy, looked_as}
use Rattle.session_ops.proofs.EndSeeing.{looked_once, looked_placed, looked_stands}
use Rattle.session_ops.proofs.settled_looking.look_once.Goals as goal
use Rattle.law_base.proofs.Options.{if_ok}

pub returns-clause-turns : goal.returns-clause-turns
returns-clause-turns g c = let w = c.args.walker.now in let v = c.look-answer.new.walker in let n = c.args.home in let p = c.args.place.now in let r = c.look-answer.result in let count = length c.args.shards.now.locks.items in
    subst (λ x. Settling count w.number w.clock w.passes.items n p x v.clock v.passes.items) (sym c.looked_by.ensures)
    (looked_once count w.number w.clock v.clock w.passes.items v.passes.items n p r (λ o same. if_ok (λ z. is_look_outcome z ≡ true) r c.look-answer.ensures.outcome o same) c.look-answer.ensures.turn)

pub returns-clause-place : goal.returns-clause-place
returns-clause-place g c = let v = c.look-answer.new.walker in let n = c.args.home in let p = c.args.place.now in let r = c.look-answer.result in
    subst (λ x. PlacedBy p x c.look-answer.new.place) (sym c.looked_by.ensures)
    (subst (λ q. PlacedBy p (looked_as n v.clock r) q) (sym c.look-answer.ensures.place) (looked_placed n v.clock p r))

pub returns-clause-stands : goal.returns-clause-stands
returns-clause-stands g c = let v = c.look-answer.new.walker in let q = c.look-answer.new.place in let r = c.look-answer.result in let n = c.args.home in
    subst (λ x. StandsBy c.args.shards.now v q n x) (sym c.looked_by.ensures) (looked_stands c.args.shards.now v n v.clock q r c.look-answer.ensures.stands)

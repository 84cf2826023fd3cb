use Rattle.std.proofs.Common.{◌∙◌, length, sym, ap, subst}
use Rattle.session_ops.specs.Parts.{StandsUnless}
use Rattle.session_ops.specs.Decided.{LeavesIf}
use Rattle.session_ops.specs.WentBack.{Rolling, PastBy, has_died}
use Rattle.session_ops.proofs.RollAsking.{place_of}
use Rattle.session_ops.proofs.RollEnding.{rolls_told, rolls_past, rolls_stand}
use Rattle.session_ops.proofs.rolling.roll_on.Goals as goal

pub returns-clause-told : goal.returns-clause-told
returns-clause-told g c = let w = c.args.walker.now in let u = c.roll-answer.new.walker in let v = c.leave_if.new.walker in let p = c.args.place.now in let m = c.roll-answer.new.place in let q = c.leave_if.new.place in let sh = c.args.shards.now in let x = c.roll-answer.result in let e = c.roll-answer.ensures in
    let n = c.args.shard in let died = c.died-over.ensures ∙ ap has_died c.back_by-ended.ensures in let same = place_of p n c.args.nth c.args.upto c.requires.may x m e.place in
    subst (λ r. Rolling (length sh.locks.items) w.number w.clock w.passes.items p c.args.nth c.args.upto n r v.clock v.passes.items q) (sym c.back_by-ended.ensures)
    (rolls_told sh w u v n c.args.nth c.args.upto p m q x e.walker.0 e.outcome e.memory e.stamped e.place e.turn (subst (λ b. LeavesIf b sh u m n v q) died c.leave_if.ensures.drops) same.0 same.1)

pub returns-clause-past : goal.returns-clause-past
returns-clause-past g c = let w = c.args.walker.now in let u = c.roll-answer.new.walker in let v = c.leave_if.new.walker in let p = c.args.place.now in let m = c.roll-answer.new.place in let q = c.leave_if.new.place in let sh = c.args.shards.now in let x = c.roll-answer.result in let e = c.roll-answer.ensures in
    let n = c.args.shard in let died = c.died-over.ensures ∙ ap has_died c.back_by-ended.ensures in
    subst (λ r. PastBy n p r v) (sym c.back_by-ended.ensures)
    (rolls_past sh w u v n c.args.nth c.args.upto p m q x e.outcome (c.requires.active.born.reached n) e.turn (subst (λ b. LeavesIf b sh u m n v q) died c.leave_if.ensures.drops))

pub returns-clause-stands : goal.returns-clause-stands
returns-clause-stands g c = let w = c.args.walker.now in let u = c.roll-answer.new.walker in let v = c.leave_if.new.walker in let p = c.args.place.now in let m = c.roll-answer.new.place in let q = c.leave_if.new.place in let sh = c.args.shards.now in let x = c.roll-answer.result in let e = c.roll-answer.ensures in
    let n = c.args.shard in let died = c.died-over.ensures ∙ ap has_died c.back_by-ended.ensures in
    subst (λ r. StandsUnless (has_died r) sh v q) (sym c.back_by-ended.ensures)
    (rolls_stand sh w u v n c.args.nth c.args.upto p m q x e.stands (subst (λ b. LeavesIf b sh u m n v q) died c.leave_if.ensures.drops))

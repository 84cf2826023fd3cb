use Rattle.std.proofs.lemmas.Result.{err_from_is_err_and}
use Rattle.io_model.specs.declared.disk.Failed.{Failed}
use Rattle.log_gate.proofs.Lengths.{first_unasked, first_long, second_asked}
use Rattle.log_gate.proofs.making.length_of.Goals as goal

pub returns-in_err-len-clause-told : goal.returns-in_err-len-clause-told
returns-in_err-len-clause-told g c =
    let p = err_from_is_err_and c.from_residual.result c.from_residual.ensures.1 in
    rw p.1 (first_unasked _ (g.D.Disk.story c.args.sides.now.side1) _ p.0 c.in_err-len.ensures.told)

pub returns-then-len-ne0-clause-told : goal.returns-then-len-ne0-clause-told
returns-then-len-ne0-clause-told g c = first_long Failed _ (g.D.Disk.story c.args.sides.now.side1) _ c.in_ok-len.len c.if-len-ne0.true c.in_ok-len.ensures.told

pub returns-clause-told : goal.returns-clause-told
returns-clause-told g c = second_asked _ _ _ _ c.in_ok-len.len c.len-2.result c.if-len-ne0.false c.in_ok-len.ensures.told c.len-2.ensures.told

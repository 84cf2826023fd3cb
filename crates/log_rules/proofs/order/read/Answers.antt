use Rattle.std.proofs.Common.{refl, sym, ◌∙◌}
use Rattle.log_rules.proofs.order.read.Goals as goal

pub returns-then-not-branch-clause-err : goal.returns-then-not-branch-clause-err
returns-then-not-branch-clause-err c = (refl, c.index-records-lsn.result, c.index-records-lsn.is, sym c.in_ok-takes.ensures ∙ c.if-not-branch.true)

pub returns-clause-ok : goal.returns-clause-ok
returns-clause-ok c = (c.index-records-lsn.result, c.index-records-lsn.is, sym c.in_ok-takes.ensures ∙ c.if-not-branch.false, c.in_ok-add.ensures)

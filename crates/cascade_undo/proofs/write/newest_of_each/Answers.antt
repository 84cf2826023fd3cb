use Rattle.std.proofs.Common.{rules, ◌≡◌, Some, None, sym, ◌∙◌}
use Rattle.clv_base.specs.Logs.{standing}
use Rattle.cascade_undo.specs.Steps.{newest_in, lsn_of}
use Rattle.cascade_undo.proofs.Newest.{no_lsn, newest_there_is}
use Rattle.cascade_undo.proofs.write.newest_of_each.Goals as goal

pub returns-in_err-lsn-clause-none : goal.returns-in_err-lsn-clause-none
returns-in_err-lsn-clause-none c = λ _.
    let is : c.greatest_lsn.result ≡ None = search rules in
    no_lsn (newest_in c.args.set.now (standing c.args.buffer.now.records)) (sym c.greatest_lsn.ensures ∙ is)

pub returns-clause-newest : goal.returns-clause-newest
returns-clause-newest c =
    let at : lsn_of (newest_in c.args.set.now (standing c.args.buffer.now.records)) ≡ Some c.in_ok-lsn.lsn = search rules in
    (newest_there_is c.args.set.now c.args.buffer.now.records c.in_ok-lsn.lsn c.write_at.result c.write_at.ensures at).0

pub returns-clause-none : goal.returns-clause-none
returns-clause-none c =
    let at : lsn_of (newest_in c.args.set.now (standing c.args.buffer.now.records)) ≡ Some c.in_ok-lsn.lsn = search rules in
    (newest_there_is c.args.set.now c.args.buffer.now.records c.in_ok-lsn.lsn c.write_at.result c.write_at.ensures at).1

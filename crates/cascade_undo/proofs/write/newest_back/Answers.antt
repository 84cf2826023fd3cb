use Rattle.std.proofs.Common.{sym, ◌∙◌, arith}
use Rattle.clv_base.specs.Logs.{standing}
use Rattle.cascade_undo.proofs.Newest.{newest_in_one}
use Rattle.cascade_undo.proofs.Backing.{none_newest, newest_told}
use Rattle.cascade_undo.proofs.write.newest_back.Goals as goal

pub returns-clause-newest : goal.returns-clause-newest
returns-clause-newest c = newest_told c.args.left c.args.tx (standing c.args.buffer.now.records) (let l = c.if-left-eq0.false in omega (arith, l)) c.newest_of_each.result c.newest_of_each.ensures.newest

pub returns-clause-none : goal.returns-clause-none
returns-clause-none c = λ none. none_newest c.args.left c.args.tx (standing c.args.buffer.now.records)
    (sym (newest_in_one c.args.tx (standing c.args.buffer.now.records)) ∙ c.newest_of_each.ensures.none none)

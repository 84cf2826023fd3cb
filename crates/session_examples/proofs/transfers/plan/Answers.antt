use Rattle.session_examples.proofs.Following.{later_on}
use Rattle.session_examples.proofs.transfers.plan.Goals as goal

pub returns-in_err-other-clause-later : goal.returns-in_err-other-clause-later
returns-in_err-other-clause-later g c = later_on c.args.session.now.walker c.look.new.session.walker c.look-2.new.session.walker c.look.ensures.later c.look-2.ensures.later

pub returns-in_err-left-clause-later : goal.returns-in_err-left-clause-later
returns-in_err-left-clause-later g c = later_on c.args.session.now.walker c.look.new.session.walker c.look-2.new.session.walker c.look.ensures.later c.look-2.ensures.later

pub returns-in_err-sum-clause-later : goal.returns-in_err-sum-clause-later
returns-in_err-sum-clause-later g c = later_on c.args.session.now.walker c.look.new.session.walker c.look-2.new.session.walker c.look.ensures.later c.look-2.ensures.later

pub returns-clause-later : goal.returns-clause-later
returns-clause-later g c = later_on c.args.session.now.walker c.look.new.session.walker c.look-2.new.session.walker c.look.ensures.later c.look-2.ensures.later

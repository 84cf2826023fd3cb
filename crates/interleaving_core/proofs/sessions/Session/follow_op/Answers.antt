use Rattle.std.proofs.Common.{ap, ◌∙◌}
use Rattle.clv_base.specs.Sessions.{op_answered, session_for}
use Rattle.interleaving_core.proofs.Entries.{op_goes_on}
use Rattle.interleaving_core.proofs.sessions.Session.follow_op.Goals as goal

pub returns : goal.returns
returns c splits seen t h =
    let a = op_goes_on splits c.args.shard c.args.nth seen c.args.op.now c.args.outcome.now (session_for c.args.self.now c.args.tx c.args.birth) t h in
    c.follow_answer.ensures t (ap (λ u. op_answered c.args.shard c.args.nth c.args.op.now u c.args.outcome.now) (c.follow_birth.ensures a.before a.is) ∙ a.answered)

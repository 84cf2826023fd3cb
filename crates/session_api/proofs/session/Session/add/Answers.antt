use Rattle.clv_base.specs.declared.ops.Op.TheVariants.{Add}
use Rattle.session_ops.specs.Parts.{added_in}
use Rattle.session_api.specs.Progresses.{added_given}
use Rattle.session_api.proofs.Telling.{gives_added, called_by}
use Rattle.session_api.proofs.session.Session.add.Goals as goal

pub returns-clause-told : goal.returns-clause-told
returns-clause-told g c = let s = c.args.self.now in let z = c.call_at_key.new.self in
    called_by added_in added_given gives_added s.shards.now s.walker z.walker (Add c.args.key c.args.by) c.args.key c.call_at_key.result z.progress s.progress c.added_of.result c.added_of.ensures c.call_at_key.ensures.told

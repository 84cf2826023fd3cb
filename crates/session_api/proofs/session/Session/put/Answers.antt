use Rattle.clv_base.specs.declared.ops.Op.TheVariants.{Put}
use Rattle.session_ops.specs.Parts.{value_in}
use Rattle.session_api.specs.Progresses.{value_given}
use Rattle.session_api.proofs.Telling.{gives_value, called_by}
use Rattle.session_api.proofs.session.Session.put.Goals as goal

pub returns-clause-told : goal.returns-clause-told
returns-clause-told g c = let s = c.args.self.now in let z = c.call_at_key.new.self in
    called_by value_in value_given gives_value s.shards.now s.walker z.walker (Put c.args.key c.args.value) c.args.key c.call_at_key.result z.progress s.progress c.value_of.result c.value_of.ensures c.call_at_key.ensures.told

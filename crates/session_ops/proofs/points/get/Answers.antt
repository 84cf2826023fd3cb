use Rattle.clv_base.specs.declared.ops.Op.TheVariants.{Get}
use Rattle.session_ops.specs.Parts.{value_in}
use Rattle.session_ops.proofs.Telling.{told_by}
use Rattle.session_ops.proofs.points.get.Goals as goal

pub returns-clause-told : goal.returns-clause-told
returns-clause-told g c = told_by value_in c.args.shards.now c.args.walker.now c.at_key.new.walker c.args.place.now c.at_key.new.place (Get c.args.key) c.args.key c.at_key.result c.value_of.result c.at_key.ensures.told c.value_of.ensures

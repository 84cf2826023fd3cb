use Rattle.clv_base.specs.declared.ops.Op.TheVariants.{Add}
use Rattle.session_ops.specs.Parts.{added_in}
use Rattle.session_ops.proofs.Telling.{told_by}
use Rattle.session_ops.proofs.points.add.Goals as goal

pub returns-clause-told : goal.returns-clause-told
returns-clause-told g c = told_by added_in c.args.shards.now c.args.walker.now c.at_key.new.walker c.args.place.now c.at_key.new.place (Add c.args.key c.args.by) c.args.key c.at_key.result c.added_of.result c.at_key.ensures.told c.added_of.ensures

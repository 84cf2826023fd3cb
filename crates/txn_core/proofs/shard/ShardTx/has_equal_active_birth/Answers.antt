use Rattle.std.proofs.Common.{◌∙◌}
use Rattle.txn_core.proofs.Births.{any_rival}
use Rattle.txn_core.proofs.shard.ShardTx.has_equal_active_birth.Goals as goal

pub returns : goal.returns
returns g c = c.has_rival.ensures ∙ any_rival c.args.tx c.args.birth c.args.self.now.local.parts

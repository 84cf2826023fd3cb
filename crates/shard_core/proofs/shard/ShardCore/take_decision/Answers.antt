-- Who waits for the decision has a part here.
use Rattle.std.proofs.Common.{sym, ◌∙◌}
use Rattle.shard_core.proofs.Heard.{awaited_known}
use Rattle.shard_core.proofs.shard.ShardCore.take_decision.Goals as goal

pub carry_out-requires-clause-known : goal.carry_out-requires-clause-known
carry_out-requires-clause-known g c = awaited_known c.args.self.now.shard c.args.tx c.args.commit (sym c.decision_is.ensures ∙ c.in-Waiting.is)

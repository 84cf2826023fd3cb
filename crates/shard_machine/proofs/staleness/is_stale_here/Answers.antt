use Rattle.std.proofs.Common.{sym, ap, ◌∙◌}
use Rattle.clv_base.specs.declared.messages.Message.{Message}
use Rattle.clv_base.specs.Events.{on_message}
use Rattle.shard_machine.specs.Happening.{comes_early}
use Rattle.shard_machine.proofs.staleness.is_stale_here.Goals as goal

pub returns-in-Decide : goal.returns-in-Decide
returns-in-Decide g c = c.is_decision_stale.ensures ∙ ap (λ (m : Message). comes_early (on_message c.args.core.now.shard m)) (sym c.in-Decide.is)

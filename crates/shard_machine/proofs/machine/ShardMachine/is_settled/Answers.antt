-- As the core tells it, while the shard is up.
use Rattle.std.proofs.Common.{◌≡◌, sym, ◌∙◌, ap, subst}
use Rattle.machine_calls.specs.Settled.{is_settled}
use Rattle.machine_laws.specs.Frame.{stamped_as}
use Rattle.shard_machine.specs.Machined.{Machined}
use Rattle.shard_machine.proofs.machine.ShardMachine.is_settled.Goals as goal

pub returns-then-self : goal.returns-then-self
returns-then-self g c =
    let i = c.self.inside in
    subst (λ (v : Machined _). c.is_settled.result ≡ is_settled v.shard) c.self.view_is (c.is_settled.ensures ∙ ap (λ b. is_settled (stamped_as b i.last i.journal.entries i.core.shard)) (sym c.if-self.true))

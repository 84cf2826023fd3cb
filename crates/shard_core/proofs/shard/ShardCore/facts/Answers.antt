-- The LSN of the PREPARE comes from the table of these.
use Rattle.std.proofs.Common.{ap, ◌∙◌}
use Rattle.clv_base.specs.Facts.{facts_in, facts_of}
use Rattle.shard_core.specs.Core.{Core}
use Rattle.shard_core.proofs.shard.ShardCore.facts.Goals as goal

pub returns : goal.returns
returns g c =
    let t = c.self.inside.transactions in
    c.facts.ensures ∙ ap (λ p. record (facts_in t.local t.durable c.args.tx) { prepare = p }) (c.get.ensures ∙ c.self.invariant.prepares c.args.tx) ∙ ap (λ (v : Core). facts_of v.shard c.args.tx) c.self.view_is

use Rattle.std.proofs.Common.{ap, ◌∙◌}
use Rattle.clv_base.specs.Shards.{lies_within, span}
use Rattle.clv_base.proofs.Spans.{span_keys}
use Rattle.clv_base.proofs.splits.Splits.span.Goals as goal

pub returns-clause-keys : goal.returns-clause-keys
returns-clause-keys c =
    λ key h. ap (λ o. lies_within o key) c.range_at.ensures
    ∙ ap (λ s. lies_within (span s c.args.shard) key) c.as_slice.ensures.value
    ∙ span_keys c.args.self.now c.args.shard key c.as_slice.ensures.splits h

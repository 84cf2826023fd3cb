use Rattle.std.proofs.Common.{rules, of_calls}
use Rattle.std.proofs.lemmas.Fn.{filter_same}
use Rattle.clv_base.specs.Logs.{has_standing}
use Rattle.shard_ops.proofs.meeting.keep_standing.Goals as goal

pub returns : goal.returns
returns c = filter_same _ (has_standing c.args.buffer.now.records) _ (λ x b q h. search (rules, of_calls)) _ _ c.retain.ensures.filtered

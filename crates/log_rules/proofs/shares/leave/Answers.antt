use Rattle.std.proofs.Common.{rules, of_calls, not}
use Rattle.std.proofs.lemmas.Fn.{filter_same}
use Rattle.clv_base.specs.Orders.{tx_same}
use Rattle.log_rules.proofs.shares.leave.Goals as goal

pub returns : goal.returns
returns c = filter_same _ (λ h. not (tx_same c.args.tx h.tx)) _ (λ x b q h. search (rules, of_calls)) _ _ c.retain.ensures.filtered

use Rattle.std.proofs.Common.{◌≡◌, drop}
use Rattle.clv_base.specs.LogRules.{first_apart}
use Rattle.log_rules.proofs.agreement.first_homeless.Given as goal

abbrev pub invariant-loop-tx : goal.invariant-loop-tx
invariant-loop-tx l = first_apart l.logs (drop l.tx-index l.txs) ≡ first_apart l.logs l.txs

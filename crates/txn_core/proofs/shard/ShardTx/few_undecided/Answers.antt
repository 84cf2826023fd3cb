use Rattle.std.proofs.Common.{subst}
use Rattle.txn_core.specs.State.{TxState}
use Rattle.txn_core.specs.Sound.{FewUndecided}
use Rattle.txn_core.proofs.shard.ShardTx.few_undecided.Goals as goal

pub returns : goal.returns
returns g c = subst (λ (v : TxState). FewUndecided (v.local).log (v.local).pairs) c.self.view_is c.self.invariant.few

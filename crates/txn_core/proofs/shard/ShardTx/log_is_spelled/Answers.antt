use Rattle.std.proofs.Common.{◌≡◌, true, subst}
use Rattle.std.specs.List.{list_all}
use Rattle.clv_base.specs.FileRules.{has_spelling}
use Rattle.txn_core.specs.State.{TxState}
use Rattle.txn_core.proofs.shard.ShardTx.log_is_spelled.Goals as goal

pub returns : goal.returns
returns g c = subst (λ (v : TxState). list_all has_spelling (v.local).log ≡ true) c.self.view_is c.self.invariant.spelled.log

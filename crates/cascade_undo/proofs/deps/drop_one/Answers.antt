use Rattle.std.proofs.Common.{rules, of_calls, not}
use Rattle.std.proofs.lemmas.Fn.{filter_same}
use Rattle.clv_base.specs.declared.names.TxId.{TxId}
use Rattle.clv_base.specs.Orders.{tx_same}
use Rattle.cascade_undo.proofs.deps.drop_one.Goals as goal

pub returns-clause-items : goal.returns-clause-items
returns-clause-items c = filter_same _ (λ (t : TxId). not (tx_same c.args.tx t)) _ (λ x b q h. search (rules, of_calls)) _ _ c.retain.ensures.filtered

use Rattle.std.proofs.Common.{◌≡◌, drop, List, Some}
use Rattle.clv_base.specs.declared.names.TxId.{TxId}
use Rattle.clv_base.specs.Orders.{tx_in}
use Rattle.standby_base.specs.Standby.{keeps_on}
use Rattle.standby_maps.specs.Cuts.{cuts_of}
use Rattle.standby_maps.proofs.membership.all_in_time.Given as goal

abbrev pub invariant-loop-shard : goal.invariant-loop-shard
invariant-loop-shard l = (set : List TxId) → l.cuts ≡ cuts_of (λ t. tx_in t set) l.logs → keeps_on l.logs set l.tx (Some (drop l.shard-index l.parts)) ≡ keeps_on l.logs set l.tx (Some l.parts)

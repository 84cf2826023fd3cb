use Rattle.std.proofs.Common.{◌≡◌, drop, Some}
use Rattle.clv_base.specs.Undo.{gone_in}
use Rattle.txn_core.proofs.ending.end_parts.Given as goal

abbrev pub invariant-loop-tx : goal.invariant-loop-tx
invariant-loop-tx l = gone_in (drop l.tx-index l.txs) (Some l.doom) l.parts.entries ≡ gone_in l.txs (Some l.doom) l.initial.parts.entries

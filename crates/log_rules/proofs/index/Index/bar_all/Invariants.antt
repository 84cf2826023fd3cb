use Rattle.std.proofs.Common.{take}
use Rattle.log_rules.specs.Adding.{BarsAll}
use Rattle.log_rules.proofs.index.Index.bar_all.Given as goal

abbrev pub invariant-loop-tx : goal.invariant-loop-tx
invariant-loop-tx l = BarsAll l.fn.self l.self (take l.tx-index l.txs)

use Rattle.log_records.specs.Spelling.{transaction}
use Rattle.log_records.proofs.Loops.{Puts}
use Rattle.log_records.proofs.lists.put_txs.Given as goal

abbrev pub invariant-loop-tx : goal.invariant-loop-tx
invariant-loop-tx l = Puts transaction 16 l.tx-index l.txs l.fn.out l.out

use Rattle.std.proofs.Common.{◌≡◌, ◌-◌}
use Rattle.log_records.specs.Reading.{each_at, transaction_at}
use Rattle.log_records.proofs.Loops.{with_front}
use Rattle.log_records.proofs.lists.each_tx_at.Given as goal

abbrev pub invariant-loop : goal.invariant-loop
invariant-loop l = with_front l.txs.items (each_at transaction_at (l.count - l.counter) l.rest) ≡ each_at transaction_at l.count l.bytes

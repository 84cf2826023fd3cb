use Rattle.std.proofs.Common.{◌≡◌, ◌-◌, length}
use Rattle.log_records.specs.Reading.{each_at, number_at}
use Rattle.log_records.proofs.Loops.{with_front}
use Rattle.log_records.proofs.lists.each_shard_at.Given as goal

abbrev pub invariant-loop : goal.invariant-loop
invariant-loop l = (length l.shards ≡ l.counter) × (with_front l.shards (each_at (number_at 4) (l.count - l.counter) l.rest) ≡ each_at (number_at 4) l.count l.bytes)

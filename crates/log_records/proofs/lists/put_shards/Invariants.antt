use Rattle.log_records.specs.Spelling.{number}
use Rattle.log_records.proofs.Loops.{Puts}
use Rattle.log_records.proofs.lists.put_shards.Given as goal

abbrev pub invariant-loop-shard : goal.invariant-loop-shard
invariant-loop-shard l = Puts (number 4) 4 l.shard-index l.shards l.fn.out l.out

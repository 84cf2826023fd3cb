use Rattle.std.proofs.Common.{◌≡◌, ◌++◌, List, length}
use Rattle.clv_base.specs.declared.logs.LogRecord.{LogRecord}
use Rattle.clv_base.specs.FileRules.{passes_file_rules}
use Rattle.log_gate.proofs.Records.{ReadSoFar}
use Rattle.log_gate.proofs.parse.read_batch.Given as goal

abbrev pub invariant-loop-rest : goal.invariant-loop-rest
invariant-loop-rest l = (records : List LogRecord) × ReadSoFar (passes_file_rules l.header.splits l.header.shard) l.place l.payload records l.rest × (l.out.items ≡ l.fn.out.items ++ records)

abbrev pub decreases-loop-rest : goal.decreases-loop-rest
decreases-loop-rest l = length l.rest

use Rattle.std.proofs.Common.{map, take}
use Rattle.log_buffer.specs.Chained.{IsChainOf}
use Rattle.log_buffer.proofs.making.chain_of.Given as goal

abbrev pub invariant-loop-record : goal.invariant-loop-record
invariant-loop-record g l = IsChainOf l.chain (map g.R.Measured.link (take l.record-index l.records))

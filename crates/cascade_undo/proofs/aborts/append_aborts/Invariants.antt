use Rattle.std.proofs.Common.{◌≡◌, ◌≤◌, ◌+◌, ◌++◌, length, drop}
use Rattle.clv_base.specs.Logs.{standing}
use Rattle.clv_base.specs.Undo.{aborts_of}
use Rattle.cascade_undo.proofs.aborts.append_aborts.Given as goal

abbrev pub invariant-loop-tx : goal.invariant-loop-tx
invariant-loop-tx l = record {
  log : l.buffer.records ++ aborts_of l.initial.buffer.records (drop l.tx-index l.set) ≡ l.initial.buffer.records ++ aborts_of l.initial.buffer.records l.set;
  standing : standing l.buffer.records ≡ standing l.initial.buffer.records;
  durable : l.buffer.durable ≡ l.initial.buffer.durable;
  taken : l.buffer.taken ≡ l.initial.buffer.taken;
  room : l.initial.buffer.room + length l.initial.buffer.records ≤ l.buffer.room + length l.buffer.records;
}

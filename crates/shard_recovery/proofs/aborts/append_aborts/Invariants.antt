use Rattle.std.proofs.Common.{◌≡◌, ◌≤◌, ◌+◌, ◌++◌, take}
use Rattle.shard_recovery.specs.Aborting.{aborts}
use Rattle.shard_recovery.proofs.aborts.append_aborts.Given as goal

abbrev pub invariant-loop-tx : goal.invariant-loop-tx
invariant-loop-tx l = record {
  log : l.buffer.records ≡ l.initial.buffer.records ++ aborts (take l.tx-index l.txs);
  durable : l.buffer.durable ≡ l.initial.buffer.durable;
  taken : l.buffer.taken ≡ l.initial.buffer.taken;
  room : l.initial.buffer.room ≤ l.buffer.room + l.tx-index;
}

-- Only room is made.
use Rattle.std.proofs.Common.{ap}
use Rattle.txn_core.specs.State.{TxState}
use Rattle.shard_core.proofs.making.with_room.Goals as goal

pub returns-in-Ok-clause-shard : goal.returns-in-Ok-clause-shard
returns-in-Ok-clause-shard g c = ap (λ (t : TxState). t.shard) c.reserve.ensures.same

pub returns-in-Ok-clause-local : goal.returns-in-Ok-clause-local
returns-in-Ok-clause-local g c = ap (λ (t : TxState). t.local) c.reserve.ensures.same

pub returns-in-Ok-clause-durable : goal.returns-in-Ok-clause-durable
returns-in-Ok-clause-durable g c = ap (λ (t : TxState). t.durable) c.reserve.ensures.same

pub returns-in-Ok-clause-taken : goal.returns-in-Ok-clause-taken
returns-in-Ok-clause-taken g c = ap (λ (t : TxState). t.taken) c.reserve.ensures.same

-- What is copied, and the rest with the shard, if it isn't in yet, are the whole with the shard.
use Rattle.std.proofs.Common.{◌≡◌, ◌++◌, ◌+◌, ◌≤◌, ◌<◌, cond, length, drop}
use Rattle.clv_base.specs.Orders.{nat_insert}
use Rattle.clv_base.proofs.parts.ShardList.with.Given as goal

abbrev pub invariant-loop-one : goal.invariant-loop-one
invariant-loop-one l = record {
  same : l.list ++ cond l.is_in (drop l.one-index l.one-items) (nat_insert l.shard (drop l.one-index l.one-items)) ≡ nat_insert l.shard l.self;
  room : length l.list + cond l.is_in 0 1 ≤ l.one-index + 1;
  few : length l.self < 15;
}

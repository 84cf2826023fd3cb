use Rattle.std.proofs.Common.{arith}
use Rattle.std.proofs.lemmas.Result.{err_from_is_err_and}
use Rattle.record_stream.specs.Scanning.{shards_from}
use Rattle.record_stream.proofs.Loops.{shard_goes_on, shard_stops, shards_done}
use Rattle.record_stream.proofs.lists.shards_from.Goals as goal

pub returns-in_err-shard : goal.returns-in_err-shard
returns-in_err-shard c =
    let p = err_from_is_err_and c.from_residual.result c.from_residual.ensures.1 in
    rw (p.1, p.2) (shard_stops c.loop-more.more c.loop-more.least c.loop-more.rest.now c.in_err-shard.field-0.0 (shards_from c.args.count 0 c.args.bytes.now) c.loop-more-test.true c.in_err-shard.ensures.is c.loop-more.invariant.1)

pub loop-more-preserved : goal.loop-more-preserved
loop-more-preserved c = (
  omega (arith, c.loop-more.invariant.0, c.in_ok-shard.ensures.within.1, c.loop-more-test.true),
  shard_goes_on c.loop-more.more c.loop-more.least c.loop-more.rest.now c.in_ok-shard.after.now c.in_ok-shard.shard (shards_from c.args.count 0 c.args.bytes.now) c.loop-more-test.true c.in_ok-shard.ensures.is c.loop-more.invariant.1,
)

pub returns : goal.returns
returns c = shards_done c.loop-more.more c.loop-more.least c.loop-more.rest.now (shards_from c.args.count 0 c.args.bytes.now) c.loop-more-test.false c.loop-more.invariant.1

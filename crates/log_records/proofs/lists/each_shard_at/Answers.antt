use Rattle.std.proofs.Common.{◌≡◌, ◌+◌, ◌++◌, ◌∷◌, [], length, arith, length-append}
use Rattle.std.proofs.lemmas.Result.{err_from_is_err_and}
use Rattle.log_records.specs.Reading.{each_at, number_at}
use Rattle.log_records.proofs.Loops.{goes_on, ends, is_done}
use Rattle.log_records.proofs.lists.each_shard_at.Goals as goal

pub returns-in_err-shard : goal.returns-in_err-shard
returns-in_err-shard c =
    let p = err_from_is_err_and c.from_residual.result c.from_residual.ensures.1 in
    rw (p.1, p.2) (ends (number_at 4) c.in_err-shard.field-0.0 c.loop.shards c.args.count c.loop.counter c.loop.rest.now (each_at (number_at 4) c.args.count c.args.bytes.now) c.loop-test.true c.in_err-shard.ensures c.loop.invariant.1)

pub loop-preserved : goal.loop-preserved
loop-preserved c =
    let more : length (c.loop.shards ++ c.in_ok-shard.shard ∷ []) ≡ c.loop.counter + 1 = omega (arith, length-append c.loop.shards (c.in_ok-shard.shard ∷ []), c.loop.invariant.0) in
    rw c.push.ensures (more, goes_on (number_at 4) c.loop.shards c.args.count c.loop.counter c.loop.rest.now c.in_ok-shard.shard c.in_ok-shard.after.now (each_at (number_at 4) c.args.count c.args.bytes.now) c.loop-test.true c.in_ok-shard.ensures c.loop.invariant.1)

pub returns : goal.returns
returns c = is_done (number_at 4) c.loop.shards c.args.count c.loop.counter c.loop.rest.now (each_at (number_at 4) c.args.count c.args.bytes.now) c.loop-test.false c.loop.invariant.1

use Rattle.std.proofs.Common.{◌+◌, arith}
use Rattle.session_ops.proofs.BackBelow.{again_may, never_again, again_left}
use Rattle.session_ops.proofs.going_back.roll_again.Goals as goal

pub roll_on-requires-clause-may : goal.roll_on-requires-clause-may
roll_on-requires-clause-may g c = again_may c.args.shards.now c.args.walker.now c.args.place.now c.args.shard c.args.upto (c.nth-nth.result + 1) (let n = c.nth-nth.ensures.number in omega arith) c.requires.undone

pub unreachable-requires : goal.unreachable-requires
unreachable-requires g c = never_again c.args.shards.now c.args.walker.now c.args.place.now c.args.shard c.args.upto c.roll_on.new.walker c.roll_on.new.place (c.nth-nth.result + 1) c.in-Ok.field-0 c.requires.undone c.in-Ok.ensures.told

pub returns-clause-left : goal.returns-clause-left
returns-clause-left g c = again_left c.args.shards.now c.args.walker.now c.args.place.now c.args.shard c.args.upto c.roll_on.new.walker c.roll_on.new.place (c.nth-nth.result + 1) c.in-Err.error c.requires.undone c.in-Err.ensures.told c.in-Err.ensures.past

-- In the end.
use Rattle.std.proofs.Common.{ap, ◌∙◌}
use Rattle.clv_base.specs.OneShard.{op_reply}
use Rattle.clv_base.specs.Events.{finish}
use Rattle.shard_core.proofs.Operated.{ends}
use Rattle.shard_core.proofs.shard.ShardCore.operate.Goals as goal
use Rattle.shard_core.proofs.Looked.{rest_is as rest_same}

pub returns-clause-ok : goal.returns-clause-ok
returns-clause-ok g c =
    let s = c.args.self.now.shard in
    ends (op_reply s.shard s.local c.args.tx c.args.birth c.args.seen c.args.op.now) s c.op_here.new.self.shard c.settle_due-2.new.dues.shard c.in-Ok.reply (rest_same c.args.self.now c.requires.rest) c.settle_due-2.ensures.done c.in-Ok.ensures.ok

pub returns-in-Err-clause-err : goal.returns-in-Err-clause-err
returns-in-Err-clause-err g c = c.settle_due.ensures.done ∙ ap finish c.in-Err.ensures.err ∙ rest_same c.args.self.now c.requires.rest

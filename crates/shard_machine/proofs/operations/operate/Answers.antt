use Rattle.std.proofs.Common.{subst}
use Rattle.txn_core.specs.declared.op.Reply.{Reply}
use Rattle.clv_base.specs.OneShard.{op_reply}
use Rattle.shard_core.specs.Operating.{Ends}
use Rattle.shard_machine.proofs.Meaning.{answered, died, waits, crowded}
use Rattle.shard_machine.proofs.operations.operate.Goals as goal

pub returns-in-Ok-Answered-clause-ok : goal.returns-in-Ok-Answered-clause-ok
returns-in-Ok-Answered-clause-ok g c =
    let s = c.args.core.now.shard in let w = c.in-Ok-Answered in
    answered (op_reply s.shard s.local c.args.tx c.args.birth c.args.seen c.args.op.now) s c.operate.new.self.shard w.answer w.copy w.epoch
    (subst (λ (r : Reply). Ends (op_reply s.shard s.local c.args.tx c.args.birth c.args.seen c.args.op.now) s r c.operate.new.self.shard) w.field-0-is w.ensures.ok)

pub returns-in-Ok-Dead-clause-ok : goal.returns-in-Ok-Dead-clause-ok
returns-in-Ok-Dead-clause-ok g c =
    let s = c.args.core.now.shard in let w = c.in-Ok-Dead in
    died (op_reply s.shard s.local c.args.tx c.args.birth c.args.seen c.args.op.now) s c.operate.new.self.shard w.cause
    (subst (λ (r : Reply). Ends (op_reply s.shard s.local c.args.tx c.args.birth c.args.seen c.args.op.now) s r c.operate.new.self.shard) w.field-0-is w.ensures.ok)

pub returns-in-Ok-Wait-clause-ok : goal.returns-in-Ok-Wait-clause-ok
returns-in-Ok-Wait-clause-ok g c =
    let s = c.args.core.now.shard in let w = c.in-Ok-Wait in
    waits (op_reply s.shard s.local c.args.tx c.args.birth c.args.seen c.args.op.now) s c.operate.new.self.shard w.younger
    (subst (λ (r : Reply). Ends (op_reply s.shard s.local c.args.tx c.args.birth c.args.seen c.args.op.now) s r c.operate.new.self.shard) w.field-0-is w.ensures.ok)

pub returns-in-Ok-Crowded-clause-ok : goal.returns-in-Ok-Crowded-clause-ok
returns-in-Ok-Crowded-clause-ok g c =
    let s = c.args.core.now.shard in let w = c.in-Ok-Crowded in
    crowded (op_reply s.shard s.local c.args.tx c.args.birth c.args.seen c.args.op.now) s c.operate.new.self.shard w.count
    (subst (λ (r : Reply). Ends (op_reply s.shard s.local c.args.tx c.args.birth c.args.seen c.args.op.now) s r c.operate.new.self.shard) w.field-0-is w.ensures.ok)

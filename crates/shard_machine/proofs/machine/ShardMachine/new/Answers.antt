-- The parts are those that a restart leaves.
use Rattle.std.proofs.Common.{◌≤◌, length, sym, subst, List, arith}
use Rattle.clv_base.specs.declared.events.Entry.{Entry}
use Rattle.shard_machine.proofs.Starting.{begun}
use Rattle.shard_machine.proofs.machine.ShardMachine.new.Goals as goal

pub invariant_of-result : goal.invariant_of-result
invariant_of-result g c =
    begun c.in-Ok.core c.new-journal.result c.args.shard c.args.run c.args.epoch 0 _ c.args.recovered c.requires.shard c.requires.restored c.in-Ok.ensures.shard c.in-Ok.ensures.rest c.new-journal.ensures.0
    (subst (λ (es : List Entry). length es ≤ 0) (sym c.new-journal.ensures.1) (omega arith))

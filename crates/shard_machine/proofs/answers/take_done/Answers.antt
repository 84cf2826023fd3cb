use Rattle.std.proofs.Common.{refl, sym}
use Rattle.clv_base.specs.Orders.{tx_get}
use Rattle.shard_machine.proofs.Meaning.{done_counts, done_stale}
use Rattle.shard_machine.proofs.answers.take_done.Goals as goal

pub returns-then-awaits_done-clause-happens : goal.returns-then-awaits_done-clause-happens
returns-then-awaits_done-clause-happens g c =
    let s = c.args.core.now.shard in
    done_counts s c.take_done.new.self.shard c.args.tx c.args.from (tx_get c.args.tx s.requests) (sym c.if-awaits_done.ensures) c.take_done.ensures.taken

pub returns-else-awaits_done-clause-happens : goal.returns-else-awaits_done-clause-happens
returns-else-awaits_done-clause-happens g c =
    let s = c.args.core.now.shard in done_stale s s c.args.tx c.args.from (tx_get c.args.tx s.requests) (sym c.if-awaits_done.ensures) refl

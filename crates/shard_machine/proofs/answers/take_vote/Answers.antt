use Rattle.std.proofs.Common.{refl, sym}
use Rattle.clv_base.specs.Orders.{tx_get}
use Rattle.shard_machine.proofs.Meaning.{vote_counts, vote_stale}
use Rattle.shard_machine.proofs.answers.take_vote.Goals as goal

pub returns-then-awaits_vote-clause-happens : goal.returns-then-awaits_vote-clause-happens
returns-then-awaits_vote-clause-happens g c =
    let s = c.args.core.now.shard in
    vote_counts s c.take_vote.new.self.shard c.args.tx c.args.from c.args.vote (tx_get c.args.tx s.requests) (sym c.if-awaits_vote.ensures) c.take_vote.ensures.taken

pub returns-else-awaits_vote-clause-happens : goal.returns-else-awaits_vote-clause-happens
returns-else-awaits_vote-clause-happens g c =
    let s = c.args.core.now.shard in vote_stale s s c.args.tx c.args.from c.args.vote (tx_get c.args.tx s.requests) (sym c.if-awaits_vote.ensures) refl

-- The index, which rises, is its table's.
use Rattle.std.proofs.Common.{ap, subst, ◌∙◌}
use Rattle.std.specs.List.Sorted.{IsStrictlySortedBy}
use Rattle.clv_base.specs.Orders.{tx_cmp}
use Rattle.tx_table.proofs.Laws.{in_order, index_rises}
use Rattle.two_phase_commit.specs.Coordinated.{Coordination}
use Rattle.two_phase_commit.specs.Waiting.{waits, waiting_in}
use Rattle.two_phase_commit.proofs.coordinator.Coordinator.waiting.Goals as goal

pub returns-in-Ok-clause-txs : goal.returns-in-Ok-clause-txs
returns-in-Ok-clause-txs c =
    let i = c.self.inside in
    c.in-Ok.ensures.txs ∙ in_order (waits i.shard) i.requests.entries i.waiting c.len-all.ensures.ordered c.in-Ok.ensures.rising c.self.invariant.1
    ∙ ap (λ (v : Coordination). waiting_in v.shard v.requests) c.self.view_is

pub returns-in-Ok-clause-rising : goal.returns-in-Ok-clause-rising
returns-in-Ok-clause-rising c =
    let i = c.self.inside in
    subst (λ (v : Coordination). IsStrictlySortedBy tx_cmp (waiting_in v.shard v.requests)) c.self.view_is (index_rises (waits i.shard) i.requests.entries c.len-all.ensures.ordered)

pub returns-in-Err-clause-rising : goal.returns-in-Err-clause-rising
returns-in-Err-clause-rising c =
    let i = c.self.inside in
    subst (λ (v : Coordination). IsStrictlySortedBy tx_cmp (waiting_in v.shard v.requests)) c.self.view_is (index_rises (waits i.shard) i.requests.entries c.len-all.ensures.ordered)

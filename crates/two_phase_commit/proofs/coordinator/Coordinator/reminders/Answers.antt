-- What the waiting ones are reminded of is what all are.
use Rattle.std.proofs.Common.{◌≡◌, ◌++◌, List, ap, subst, ◌∙◌}
use Rattle.std.specs.List.Sorted.{IsStrictlySortedBy}
use Rattle.std.specs.Map.{keys_of}
use Rattle.clv_base.specs.declared.messages.Message.{Message}
use Rattle.clv_base.specs.declared.names.TxId.{TxId}
use Rattle.clv_base.specs.Orders.{tx_cmp}
use Rattle.two_phase_commit.specs.Coordinated.{Coordination}
use Rattle.two_phase_commit.specs.Reminding.{each_at, votes_of, dones_of}
use Rattle.two_phase_commit.proofs.Silent.{reminded}
use Rattle.two_phase_commit.proofs.coordinator.Coordinator.reminders.Goals as goal

pub returns : goal.returns
returns c =
    let v = c.args.self.now in let durable = c.args.durable.now in
    let rise = subst (λ (x : Coordination). IsStrictlySortedBy tx_cmp (keys_of x.requests)) c.self.view_is c.len-all.ensures.ordered in
    let votes : c.ask_for_votes.new.list.items ≡ each_at (votes_of v.shard) v.requests c.in-Ok.waiting.items =
    c.in_ok-ask_for_votes.ensures ∙ ap (λ (l : List Message). l ++ each_at (votes_of v.shard) v.requests c.deref.result.now) c.new-list.ensures.items
    ∙ ap (each_at (votes_of v.shard) v.requests) c.deref.ensures.value in
    let dones : c.tell_commits.new.list.items ≡ c.ask_for_votes.new.list.items ++ each_at (dones_of v.shard durable) v.requests c.in-Ok.waiting.items =
    c.in_ok-tell_commits.ensures ∙ ap (λ (ts : List TxId). c.ask_for_votes.new.list.items ++ each_at (dones_of v.shard durable) v.requests ts) c.deref-2.ensures.value in
    reminded v.shard v.requests durable c.in-Ok.waiting.items c.ask_for_votes.new.list.items c.tell_commits.new.list.items rise c.in-Ok.ensures.txs votes dones

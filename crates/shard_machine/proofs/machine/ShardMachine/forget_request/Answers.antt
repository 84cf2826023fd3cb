-- The core forgets it, and the rest stays.
use Rattle.std.proofs.Common.{ap, ◌∙◌, subst, is_some}
use Rattle.std.specs.List.Sorted.{IsStrictlySortedBy}
use Rattle.std.specs.Map.{keys_of}
use Rattle.clv_base.specs.Orders.{tx_cmp, tx_get}
use Rattle.shard_machine.specs.Machined.{Machined}
use Rattle.shard_machine.proofs.Forgotten.{runs_without, seen_without}
use Rattle.shard_machine.proofs.machine.ShardMachine.forget_request.Goals as goal

pub invariant_of-self : goal.invariant_of-self
invariant_of-self g c =
    let i = c.self.inside in let e = c.forget_request.ensures in
    runs_without i.core c.forget_request.new.self i.is_up i.last i.journal (is_some i.gate) c.args.tx e.shard e.rest c.self.invariant

pub returns-clause-shard : goal.returns-clause-shard
returns-clause-shard g c =
    let i = c.self.inside in
    seen_without i.is_up i.last i.journal.entries i.core.shard c.forget_request.new.self.shard c.args.tx c.args.self.now (i.gate, c.self.view_is) c.forget_request.ensures.shard

pub returns-clause-given : goal.returns-clause-given
returns-clause-given g c = c.forget_request.ensures.given ∙ ap (λ (v : Machined _). tx_get c.args.tx v.shard.requests) c.self.view_is

pub returns-clause-rising : goal.returns-clause-rising
returns-clause-rising g c = subst (λ (v : Machined _). IsStrictlySortedBy tx_cmp (keys_of v.shard.requests)) c.self.view_is c.forget_request.ensures.rising

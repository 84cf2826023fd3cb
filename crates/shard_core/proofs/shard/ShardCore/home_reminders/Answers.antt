-- The waiting requests whose COMMITs are durable, rising, are enough.
use Rattle.std.proofs.Common.{◌≡◌, sym, ap, subst, ◌∙◌, List, Bool}
use Rattle.std.proofs.lemmas.List.Kept.{IsStrictlySortedBy-filter}
use Rattle.std.specs.List.{filter}
use Rattle.std.specs.List.Sorted.{IsStrictlySortedBy}
use Rattle.std.specs.Map.{keys_of}
use Rattle.clv_base.specs.declared.names.TxId.{TxId}
use Rattle.clv_base.specs.Orders.{tx_cmp}
use Rattle.clv_base.specs.Facts.{facts_of, has_durable_commit}
use Rattle.clv_base.specs.Coordinator.{home_reminders}
use Rattle.clv_base.specs.Events.{durable_requests}
use Rattle.two_phase_commit.specs.Waiting.{waiting_in}
use Rattle.shard_core.specs.Core.{Core}
use Rattle.shard_core.proofs.shard.ShardCore.home_reminders.Goals as goal

pub reminders-requires : goal.reminders-requires
reminders-requires g c =
    let i = c.self.inside in let P : TxId → Bool = λ tx. has_durable_commit (facts_of c.args.self.now.shard tx) in
    let list = c.deref-2.ensures.value ∙ c.in-Ok-durable_of.ensures ∙ ap (filter P) (c.deref.ensures.value ∙ c.in-Ok.ensures.txs) in
    record { rising = subst (λ (ts : List TxId). IsStrictlySortedBy tx_cmp ts) (sym list) (IsStrictlySortedBy-filter tx_cmp P (waiting_in i.coordinator.shard i.coordinator.requests) c.in-Ok.ensures.rising) }

pub returns-in-Ok-reminders : goal.returns-in-Ok-reminders
returns-in-Ok-reminders g c =
    let i = c.self.inside in let v : Core = c.args.self.now in let n = i.coordinator.shard in let rs = i.coordinator.requests in
    let P : TxId → Bool = λ tx. has_durable_commit (facts_of v.shard tx) in
    let list : c.deref-2.result.now ≡ filter P (waiting_in n rs) = c.deref-2.ensures.value ∙ c.in-Ok-durable_of.ensures ∙ ap (filter P) (c.deref.ensures.value ∙ c.in-Ok.ensures.txs) in
    c.in-Ok-reminders.ensures ∙ ap (home_reminders n rs) list ∙ c.reminders_by_waiting.ensures n rs P
    ∙ ap (λ (x : Core). home_reminders n rs (filter P (keys_of x.shard.requests))) c.self.view_is
    ∙ ap (λ k. home_reminders k rs (durable_requests v.shard)) c.self.invariant.home
    ∙ ap (λ (x : Core). home_reminders x.shard.shard x.shard.requests (durable_requests v.shard)) c.self.view_is

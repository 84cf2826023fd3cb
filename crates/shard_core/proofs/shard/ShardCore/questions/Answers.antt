-- Those that ask are all among the parts that are here.
use Rattle.std.proofs.Common.{◌≡◌, sym, ap, subst, ◌∙◌, Bool}
use Rattle.std.specs.List.{filter}
use Rattle.std.specs.List.Sorted.{IsStrictlySortedBy}
use Rattle.std.specs.Map.{keys_of}
use Rattle.clv_base.specs.declared.names.TxId.{TxId}
use Rattle.clv_base.specs.Orders.{tx_cmp, tx_get}
use Rattle.clv_base.specs.Facts.{facts_of}
use Rattle.clv_base.specs.Participant.{asks}
use Rattle.clv_base.specs.Events.{waiting_voters}
use Rattle.tx_table.specs.Parts.{parts_here}
use Rattle.two_phase_commit.specs.Voting.{asks_by}
use Rattle.shard_core.specs.Core.{Core}
use Rattle.shard_core.proofs.Here.{asker_here}
use Rattle.shard_core.proofs.shard.ShardCore.questions.Goals as goal

pub returns-in-Ok-asks : goal.returns-in-Ok-asks
returns-in-Ok-asks g c =
    let i = c.self.inside in let v : Core = c.args.self.now in
    let P : TxId → Bool = λ t. asks_by (facts_of v.shard t) (tx_get t v.shard.voters) in
    let here = ap (λ (x : Core). parts_here (x.shard.local).parts) c.self.view_is in
    let list : c.deref-2.result.now ≡ filter P (parts_here (v.shard.local).parts) =
    c.deref-2.ensures.value ∙ c.in-Ok-asking_of.ensures ∙ ap (filter P) (c.deref.ensures.value ∙ c.in-Ok.ensures.txs ∙ here) in
    let voters : IsStrictlySortedBy tx_cmp (keys_of v.shard.voters) = subst (λ (x : Core). IsStrictlySortedBy tx_cmp (keys_of x.shard.voters)) c.self.view_is c.rising.ensures in
    let parts : IsStrictlySortedBy tx_cmp (parts_here (v.shard.local).parts) = subst (λ (x : Core). IsStrictlySortedBy tx_cmp (parts_here (x.shard.local).parts)) c.self.view_is c.in-Ok.ensures.rising in
    let same : waiting_voters v.shard ≡ filter P (parts_here (v.shard.local).parts) = c.waiting_among.ensures v.shard (parts_here (v.shard.local).parts) voters parts (asker_here v.shard) in
    c.in-Ok-asks.ensures ∙ ap (asks i.participant.shard i.participant.voters) (list ∙ sym same) ∙ ap (λ n. asks n i.participant.voters (waiting_voters v.shard)) c.self.invariant.voters
    ∙ ap (λ (x : Core). asks x.shard.shard x.shard.voters (waiting_voters v.shard)) c.self.view_is

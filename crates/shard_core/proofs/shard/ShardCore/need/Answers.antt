-- It is what is open, and one more.
use Rattle.std.proofs.Common.{ap, ◌∙◌, arith}
use Rattle.protocol_laws.specs.Open.{votes_owed}
use Rattle.shard_core.proofs.Parts.{Parts}
use Rattle.shard_core.proofs.Trimmed.{need_is}
use Rattle.shard_core.proofs.shard.ShardCore.need.Goals as goal

pub returns-in-Some-sum_of : goal.returns-in-Some-sum_of
returns-in-Some-sum_of g c =
    let i = c.self.inside in
    let a : Parts = record { shard = i.shard; run = i.run; transactions = i.transactions; participant = i.participant; coordinator = i.coordinator; prepares = i.prepares; outbox = i.outbox; candidates = i.candidates } in
    need_is a c.args.self.now c.self.view_is c.self.invariant c.len.result c.len-2.result c.in-Some.owed c.in-Some-sum_of.count c.in-Ok.here.items c.in-Ok-waiting.waiting.items
    (omega (arith, c.len.ensures, c.in-Ok.here.ok)) (omega (arith, c.len-2.ensures, c.in-Ok-waiting.waiting.ok)) c.in-Ok.ensures.txs c.in-Ok-waiting.ensures.txs
    (c.in-Some.ensures ∙ ap (votes_owed c.args.self.now.shard.voters) c.deref.ensures.value) c.in-Some-sum_of.ensures

-- What may still be done keeps its room.
use Rattle.std.proofs.Common.{◌≡◌, ap, ◌∙◌, ◌*◌, min, arith}
use Rattle.protocol_laws.specs.Open.{open_work}
use Rattle.shard_core.specs.Core.{Core}
use Rattle.shard_core.proofs.Parts.{Parts, viewed, rest_of}
use Rattle.shard_core.proofs.Trimmed.{open_enough, trimmed_holds}
use Rattle.shard_core.proofs.shard.ShardCore.give_back.Goals as goal

pub invariant_of-self-2 : goal.invariant_of-self-2
invariant_of-self-2 g c =
    let i = c.self.inside in
    let a : Parts = record { shard = i.shard; run = i.run; transactions = i.transactions; participant = i.participant; coordinator = i.coordinator; prepares = i.prepares; outbox = i.outbox; candidates = i.candidates } in
    let few = open_enough (viewed a) (rest_of a c.args.self.now c.self.view_is c.requires) c.rising.ensures in
    let work = ap (λ (v : Core). open_work v.shard) c.self.view_is in
    let messages : c.in-Some.messages ≡ 15 * c.in-Ok.need = omega (arith, c.in-Some.ensures) in
    trimmed_holds a c.trim.new.self c.trim-2.new.self c.in-Ok.need c.in-Ok-trim.ensures.ok (c.trim-2.ensures ∙ ap (λ k. record i.outbox { room = min i.outbox.room k }) messages) c.self.invariant
    (omega (arith, c.in-Ok.ensures, few, work))

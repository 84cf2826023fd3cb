-- Messages more touch nobody.
use Rattle.std.proofs.Common.{refl, ap, arith}
use Rattle.clv_base.specs.State.{Shard}
use Rattle.clv_base.specs.Due.{send}
use Rattle.protocol_laws.proofs.Laws.{nobody_is_touched}
use Rattle.shard_core.proofs.Parts.{Parts, seen, rest_of, rest_kept, same_left}
use Rattle.shard_core.proofs.shard.ShardCore.tell_these_here.Goals as goal

pub returns-clause-ready : goal.returns-clause-ready
returns-clause-ready g c =
    let i = c.self.inside in let a : Parts = record { shard = i.shard; run = i.run; transactions = i.transactions; participant = i.participant; coordinator = i.coordinator; prepares = i.prepares; outbox = i.outbox; candidates = i.candidates } in
    let s : Shard = seen a in let r = c.self.invariant.room in let mail = r.messages in let more = c.tell_these.ensures.room in let b : Parts = record a { outbox = c.tell_these.new.outbox } in
    let ms = c.args.messages.now in let rest = rest_of a c.args.self.now c.self.view_is c.requires in
    (same_left a b (send ms s) rest c.self.invariant (ap (λ os. record s { outbox = os }) c.in-Ok.ensures.ok) (nobody_is_touched.0 s ms)
    (record { shard = refl; transactions = refl; participant = refl; coordinator = refl }) refl refl refl refl refl c.self.invariant.logged
    (record { records = r.records; pairs = r.pairs; messages = omega (arith, mail, more) })
    (rest_kept a b rest refl c.kept.ensures.sound c.kept.ensures.purged)).ready

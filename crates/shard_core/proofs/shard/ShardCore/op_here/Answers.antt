-- What the reply leaves holds together.
use Rattle.std.proofs.Common.{◌≡◌, sym, subst, ◌&&◌, is_none, is_some}
use Rattle.clv_base.specs.Orders.{tx_get}
use Rattle.clv_base.specs.Undo.{stage_of}
use Rattle.two_phase_commit.specs.Coordinated.{state_by}
use Rattle.clv_base.specs.OneShard.{op_reply}
use Rattle.due_step.proofs.Laws.{known_have_room}
use Rattle.shard_core.specs.Core.{Core}
use Rattle.shard_core.specs.Operating.{Comes}
use Rattle.shard_core.proofs.Committing.{idle_holds}
use Rattle.shard_core.proofs.Operated.{fresh_by, operated}
use Rattle.shard_core.proofs.Parts.{Parts, seen, rest_of}
use Rattle.shard_core.proofs.Taking.{stage_known}
use Rattle.shard_core.proofs.shard.ShardCore.op_here.Goals as goal

pub op_noted-requires-clause-stage : goal.op_noted-requires-clause-stage
op_noted-requires-clause-stage g c =
    subst (λ (v : Core). c.stage_of-stage.result ≡ stage_of v.shard.local c.args.tx) (sym c.self.view_is) c.stage_of-stage.ensures

pub op_noted-requires-clause-room : goal.op_noted-requires-clause-room
op_noted-requires-clause-room g c = λ here.
    let i = c.self.inside in let a : Parts = record { shard = i.shard; run = i.run; transactions = i.transactions; participant = i.participant; coordinator = i.coordinator; prepares = i.prepares; outbox = i.outbox; candidates = i.candidates } in
    known_have_room (seen a) c.args.tx i.candidates c.self.invariant.dependents c.self.invariant.candidates.known (stage_known (seen a) c.args.tx here) c.self.invariant.candidates.places

pub invariant_of-self : goal.invariant_of-self
invariant_of-self g c =
    let i = c.self.inside in let a : Parts = record { shard = i.shard; run = i.run; transactions = i.transactions; participant = i.participant; coordinator = i.coordinator; prepares = i.prepares; outbox = i.outbox; candidates = i.candidates } in
    let e = c.in-Err.ensures in idle_holds a c.op_noted.new.transactions c.op_noted.new.candidates c.self.invariant e.err e.clear e.places e.room e.pairs_room

pub invariant_of-self-2 : goal.invariant_of-self-2
invariant_of-self-2 g c =
    let i = c.self.inside in let a : Parts = record { shard = i.shard; run = i.run; transactions = i.transactions; participant = i.participant; coordinator = i.coordinator; prepares = i.prepares; outbox = i.outbox; candidates = i.candidates } in
    let e = c.in-Ok.ensures in
    let o = operated a c.args.tx c.args.birth c.args.seen c.args.op.now c.op_noted.new.transactions c.op_noted.new.candidates (rest_of a c.args.self.now c.self.view_is c.requires.rest) c.self.invariant (fresh_by a c.args.tx c.is_late.result (subst (λ (v : Core). c.is_late.result ≡ (is_none (stage_of v.shard.local c.args.tx) && is_some (state_by (tx_get c.args.tx v.shard.requests)))) (sym c.self.view_is) c.is_late.ensures) c.if-is_late.false) e.limit e.places e.room e.pairs_room
    (record { sound = e.sound; purged = e.purged; rise = e.rise; few = e.few }) c.in-Ok.reply e.ok e.stay in
    o.whole

pub returns-clause-ready : goal.returns-clause-ready
returns-clause-ready g c =
    let i = c.self.inside in let a : Parts = record { shard = i.shard; run = i.run; transactions = i.transactions; participant = i.participant; coordinator = i.coordinator; prepares = i.prepares; outbox = i.outbox; candidates = i.candidates } in
    let e = c.in-Ok.ensures in
    let o = operated a c.args.tx c.args.birth c.args.seen c.args.op.now c.op_noted.new.transactions c.op_noted.new.candidates (rest_of a c.args.self.now c.self.view_is c.requires.rest) c.self.invariant (fresh_by a c.args.tx c.is_late.result (subst (λ (v : Core). c.is_late.result ≡ (is_none (stage_of v.shard.local c.args.tx) && is_some (state_by (tx_get c.args.tx v.shard.requests)))) (sym c.self.view_is) c.is_late.ensures) c.if-is_late.false) e.limit e.places e.room e.pairs_room
    (record { sound = e.sound; purged = e.purged; rise = e.rise; few = e.few }) c.in-Ok.reply e.ok e.stay in
    o.ready

pub returns-clause-ok : goal.returns-clause-ok
returns-clause-ok g c =
    let i = c.self.inside in let a : Parts = record { shard = i.shard; run = i.run; transactions = i.transactions; participant = i.participant; coordinator = i.coordinator; prepares = i.prepares; outbox = i.outbox; candidates = i.candidates } in
    let e = c.in-Ok.ensures in
    let o = operated a c.args.tx c.args.birth c.args.seen c.args.op.now c.op_noted.new.transactions c.op_noted.new.candidates (rest_of a c.args.self.now c.self.view_is c.requires.rest) c.self.invariant (fresh_by a c.args.tx c.is_late.result (subst (λ (v : Core). c.is_late.result ≡ (is_none (stage_of v.shard.local c.args.tx) && is_some (state_by (tx_get c.args.tx v.shard.requests)))) (sym c.self.view_is) c.is_late.ensures) c.if-is_late.false) e.limit e.places e.room e.pairs_room
    (record { sound = e.sound; purged = e.purged; rise = e.rise; few = e.few }) c.in-Ok.reply e.ok e.stay in
    subst (λ (v : Core). Comes (op_reply v.shard.shard v.shard.local c.args.tx c.args.birth c.args.seen c.args.op.now) v.shard c.in-Ok.reply (seen (record a { transactions = c.op_noted.new.transactions; candidates = c.op_noted.new.candidates }))) c.self.view_is o.comes

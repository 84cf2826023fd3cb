-- A COMMIT touches its transaction and its successors.
use Rattle.std.proofs.Common.{◌≡◌, sym, ap, subst, ◌∙◌, true, arith}
use Rattle.tx_table.specs.Held.{Candidates}
use Rattle.clv_base.specs.Orders.{tx_in}
use Rattle.due_step.specs.Noting.{known_keys}
use Rattle.due_step.proofs.Laws.{known_have_room}
use Rattle.shard_core.specs.Core.{Core}
use Rattle.shard_core.proofs.Committing.{commit_changed, idle_holds}
use Rattle.shard_core.proofs.Parts.{Parts, seen, rest_of}
use Rattle.shard_core.proofs.shard.ShardCore.commit_here.Goals as goal

pub commit_noted-requires-clause-room : goal.commit_noted-requires-clause-room
commit_noted-requires-clause-room g c =
    let i = c.self.inside in let a : Parts = record { shard = i.shard; run = i.run; transactions = i.transactions; participant = i.participant; coordinator = i.coordinator; prepares = i.prepares; outbox = i.outbox; candidates = i.candidates } in
    known_have_room (seen a) c.args.tx i.candidates c.self.invariant.dependents c.self.invariant.candidates.known (subst (λ (v : Core). tx_in c.args.tx (known_keys v.shard) ≡ true) (sym c.self.view_is) c.requires.known) c.self.invariant.candidates.places

pub invariant_of-self : goal.invariant_of-self
invariant_of-self g c =
    let i = c.self.inside in let a : Parts = record { shard = i.shard; run = i.run; transactions = i.transactions; participant = i.participant; coordinator = i.coordinator; prepares = i.prepares; outbox = i.outbox; candidates = i.candidates } in
    let e = c.in-Err.ensures in let same = ap (λ (d : Candidates). d.limit) e.stay in
    idle_holds a c.commit_noted.new.transactions c.commit_noted.new.candidates c.self.invariant e.err (ap (λ (d : Candidates). d.txs) e.stay ∙ (rest_of a c.args.self.now c.self.view_is c.requires.rest).none) (omega (arith, same)) e.room e.pairs_room

pub invariant_of-self-2 : goal.invariant_of-self-2
invariant_of-self-2 g c =
    let i = c.self.inside in let a : Parts = record { shard = i.shard; run = i.run; transactions = i.transactions; participant = i.participant; coordinator = i.coordinator; prepares = i.prepares; outbox = i.outbox; candidates = i.candidates } in
    let e = c.in-Ok.ensures in
    (commit_changed a c.args.tx c.commit_noted.new.transactions c.commit_noted.new.candidates (rest_of a c.args.self.now c.self.view_is c.requires.rest) c.self.invariant
    (subst (λ (v : Core). tx_in c.args.tx (known_keys v.shard) ≡ true) (sym c.self.view_is) c.requires.known) e.ok e.txs e.limit e.room e.pairs_room (record { sound = e.sound; purged = e.purged; rise = e.rise; few = e.few })).whole

pub returns-clause-ready : goal.returns-clause-ready
returns-clause-ready g c =
    let i = c.self.inside in let a : Parts = record { shard = i.shard; run = i.run; transactions = i.transactions; participant = i.participant; coordinator = i.coordinator; prepares = i.prepares; outbox = i.outbox; candidates = i.candidates } in
    let e = c.in-Ok.ensures in
    (commit_changed a c.args.tx c.commit_noted.new.transactions c.commit_noted.new.candidates (rest_of a c.args.self.now c.self.view_is c.requires.rest) c.self.invariant
    (subst (λ (v : Core). tx_in c.args.tx (known_keys v.shard) ≡ true) (sym c.self.view_is) c.requires.known) e.ok e.txs e.limit e.room e.pairs_room (record { sound = e.sound; purged = e.purged; rise = e.rise; few = e.few })).ready

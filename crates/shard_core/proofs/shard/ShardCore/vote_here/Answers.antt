-- The vote is kept with the request that is there.
use Rattle.std.proofs.Common.{◌≡◌, refl, sym, ap, subst, ◌∙◌, true}
use Rattle.clv_base.specs.Orders.{tx_get}
use Rattle.clv_base.specs.Events.{finish}
use Rattle.two_phase_commit.specs.Coordinated.{counts_by}
use Rattle.shard_core.specs.Core.{Core}
use Rattle.shard_core.specs.Replying.{vote_taken}
use Rattle.shard_core.proofs.Parts.{Parts, seen, Changed, rest_of}
use Rattle.shard_core.proofs.Requested.{there, request_known, room_known, vote_changed}
use Rattle.shard_core.proofs.shard.ShardCore.vote_here.Given as given
use Rattle.shard_core.proofs.shard.ShardCore.vote_here.Goals as goal

pub note-requires : goal.note-requires
note-requires g c =
    let i = c.self.inside in
    let a : Parts = record { shard = i.shard; run = i.run; transactions = i.transactions; participant = i.participant; coordinator = i.coordinator; prepares = i.prepares; outbox = i.outbox; candidates = i.candidates } in
    let counts = subst (λ (v : Core). counts_by v.shard.shard c.args.from (tx_get c.args.tx v.shard.requests) ≡ true) (sym c.self.view_is) c.requires.counts in
    let q = there c.args.tx i.coordinator.requests (counts_by i.transactions.shard c.args.from) refl counts in
    room_known (seen a) c.args.tx i.candidates c.self.invariant.candidates (request_known (seen a) c.args.tx q.0 q.1)

unfoldable before : (g : given.Over) (c : goal.After-note g) → Parts
before g c = let i = c.self.inside in record {
  shard = i.shard;
  run = i.run;
  transactions = i.transactions;
  participant = i.participant;
  coordinator = i.coordinator;
  prepares = i.prepares;
  outbox = i.outbox;
  candidates = i.candidates;
}

the_change : (g : given.Over) (c : goal.After-note g) → Changed (record (before g c) { coordinator = c.on_vote.new.self; candidates = c.note.new.candidates }) (vote_taken c.args.tx c.args.from c.args.vote (tx_get c.args.tx (seen (before g c)).requests) (seen (before g c)))
unfolding before
the_change g c =
    let a = before g c in let e = c.note.ensures in
    let counts = subst (λ (v : Core). counts_by v.shard.shard c.args.from (tx_get c.args.tx v.shard.requests) ≡ true) (sym c.self.view_is) c.requires.counts in
    vote_changed a c.args.tx c.args.from c.args.vote c.on_vote.new.self c.note.new.candidates (rest_of a c.args.self.now c.self.view_is c.requires.rest) c.self.invariant counts c.on_vote.ensures.requests e.candidates
    (record { sound = e.sound; purged = e.purged; rise = e.rise; few = e.few })

pub invariant_of-self : goal.invariant_of-self
unfolding before
invariant_of-self g c = (the_change g c).whole

pub returns-clause-ready : goal.returns-clause-ready
unfolding before
returns-clause-ready g c = (the_change g c).ready

pub returns-clause-finished : goal.returns-clause-finished
unfolding before
returns-clause-finished g c = (the_change g c).finished ∙ ap (λ (v : Core). finish (vote_taken c.args.tx c.args.from c.args.vote (tx_get c.args.tx v.shard.requests) v.shard)) c.self.view_is

-- The oldest message is out, and nobody is touched.
use Rattle.std.proofs.Common.{refl, sym, ap, subst, ◌∙◌, ◌*◌, ◌+◌, ◌≤◌, drop}
use Rattle.clv_base.specs.State.{Shard}
use Rattle.clv_base.specs.Events.{finish, with_outbox}
use Rattle.protocol_laws.proofs.Laws.{nobody_is_touched}
use Rattle.protocol_laws.specs.Left.{left}
use Rattle.shard_core.proofs.Parts.{Parts, seen, Changed, rest_of, rest_kept, same_left}
use Rattle.shard_core.specs.Core.{Core}
use Rattle.shard_core.proofs.shard.ShardCore.send_here.Given as given
use Rattle.shard_core.proofs.shard.ShardCore.send_here.Goals as goal

unfoldable before : (g : given.Over) (c : goal.After-kept g) → Parts
before g c = let i = c.self.inside in record {
  shard = i.shard;
  run = i.run;
  transactions = i.transactions;
  participant = i.participant;
  coordinator = i.coordinator;
  prepares = i.prepares;
  outbox = i.outbox;
  candidates = i.candidates;
}

the_change : (g : given.Over) (c : goal.After-kept g) → Changed (record (before g c) { outbox = c.leave_first.new.self }) (with_outbox (drop 1 (seen (before g c)).outbox) (seen (before g c)))
unfolding before
the_change g c =
    let a = before g c in let s : Shard = seen a in let b : Parts = record a { outbox = c.leave_first.new.self } in let r = c.self.invariant.room in
    same_left a b (with_outbox (drop 1 s.outbox) s) (rest_of a c.args.self.now c.self.view_is c.requires) c.self.invariant
    (ap (λ ms. with_outbox ms s) c.leave_first.ensures.messages)
    (nobody_is_touched.1 s (drop 1 s.outbox)) (record { shard = refl; transactions = refl; participant = refl; coordinator = refl }) refl refl refl refl refl c.self.invariant.logged
    (record { records = r.records; pairs = r.pairs; messages = subst (λ n. 15 * (left s + 1) ≤ n) (sym c.leave_first.ensures.room) r.messages })
    (rest_kept a b (rest_of a c.args.self.now c.self.view_is c.requires) refl c.kept.ensures.sound c.kept.ensures.purged)

pub invariant_of-self : goal.invariant_of-self
unfolding before
invariant_of-self g c = (the_change g c).whole

pub returns-clause-ready : goal.returns-clause-ready
unfolding before
returns-clause-ready g c = (the_change g c).ready

pub returns-clause-finished : goal.returns-clause-finished
unfolding before
returns-clause-finished g c = (the_change g c).finished ∙ ap (λ (v : Core). finish (with_outbox (drop 1 v.shard.outbox) v.shard)) c.self.view_is

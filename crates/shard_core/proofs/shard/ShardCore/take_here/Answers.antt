-- Records are in flight, and nobody is touched.
use Rattle.std.proofs.Common.{◌≡◌, refl, sym, ap, subst, ◌∙◌, ◌+◌, ◌<◌, drop, None}
use Rattle.clv_base.specs.Logs.{fitting}
use Rattle.clv_base.specs.State.{Shard}
use Rattle.clv_base.specs.Events.{finish, taken, with_flight}
use Rattle.protocol_laws.proofs.Laws.{nobody_is_touched}
use Rattle.txn_core.specs.State.{TxState}
use Rattle.due_step.specs.Noting.{known_keys}
use Rattle.shard_core.specs.Whole.{HasRoom}
use Rattle.shard_core.proofs.Logged.{All}
use Rattle.shard_core.proofs.Flying.{batch_flies}
use Rattle.shard_core.proofs.Parts.{Parts, seen, Changed, rest_of, rest_kept, same_left}
use Rattle.shard_core.specs.Core.{Core}
use Rattle.shard_core.proofs.shard.ShardCore.take_here.Given as given
use Rattle.shard_core.proofs.shard.ShardCore.take_here.Goals as goal

unfoldable before : (g : given.Over) (c : goal.After-kept g) → Parts
before g c = let i = c.self.inside in record {
  shard = i.shard;
  run = i.run;
  transactions = i.transactions;
  participant = i.participant;
  coordinator = i.coordinator;
  prepares = i.prepares;
  outbox = i.outbox;
  candidates = i.candidates;
}

the_change : (g : given.Over) (c : goal.After-kept g) → Changed (record (before g c) { transactions = c.take_batch.new.self }) (with_flight ((seen (before g c)).durable + fitting 1048576 (drop (taken (seen (before g c))) (seen (before g c)).local.log)) (seen (before g c)))
unfolding before
the_change g c =
    let a = before g c in let s : Shard = seen a in let t = c.self.inside.transactions in let b : Parts = record a { transactions = c.take_batch.new.self } in let r = c.self.invariant.room in let e = c.take_batch.ensures.taken in
    let k = fitting 1048576 (drop t.taken t.local.log) in let n = s.durable + fitting 1048576 (drop (taken s) s.local.log) in
    let none : s.flight ≡ None = subst (λ (v : Core). v.shard.flight ≡ None) (sym c.self.view_is) c.requires.none in
    let some : 0 < fitting 1048576 (drop (taken s) s.local.log) = subst (λ (v : Core). 0 < fitting 1048576 (drop (taken v.shard) v.shard.local.log)) (sym c.self.view_is) c.requires.some in
    same_left a b (with_flight n s) (rest_of a c.args.self.now c.self.view_is c.requires.rest) c.self.invariant
    (ap (λ (x : TxState). seen (record a { transactions = x })) e ∙ ap (λ f. record s { flight = f }) (batch_flies t.durable t.taken (λ m. fitting 1048576 (drop m t.local.log)) none some))
    (nobody_is_touched.2 s n) (record { shard = refl; transactions = ap (λ (x : TxState). x.shard) e; participant = refl; coordinator = refl }) refl refl refl refl refl
    (subst (λ (x : TxState). All (known_keys s) (drop x.durable (x.local).log)) (sym e) c.self.invariant.logged)
    (subst (λ (x : TxState). HasRoom s x a.outbox) (sym e) (record { records = r.records; pairs = r.pairs; messages = r.messages }))
    (rest_kept a b (rest_of a c.args.self.now c.self.view_is c.requires.rest) refl c.kept.ensures.sound c.kept.ensures.purged)

pub invariant_of-self : goal.invariant_of-self
unfolding before
invariant_of-self g c = (the_change g c).whole

pub returns-clause-ready : goal.returns-clause-ready
unfolding before
returns-clause-ready g c = (the_change g c).ready

pub returns-clause-finished : goal.returns-clause-finished
unfolding before
returns-clause-finished g c = (the_change g c).finished ∙ ap (λ (v : Core). finish (with_flight (v.shard.durable + fitting 1048576 (drop (taken v.shard) v.shard.local.log)) v.shard)) c.self.view_is

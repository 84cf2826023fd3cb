-- Those whom the records concern are candidates.
use Rattle.std.proofs.Common.{◌≡◌, refl, sym, ap, subst, ◌∙◌, drop, Some}
use Rattle.clv_base.specs.State.{Shard}
use Rattle.clv_base.specs.Events.{finish, with_durable}
use Rattle.clv_base.specs.OneShard.{purge}
use Rattle.due_step.specs.Steps.{ArePrepares}
use Rattle.protocol_laws.specs.Candidates.{Cover}
use Rattle.due_step.specs.Noting.{known_keys}
use Rattle.due_step.proofs.Laws.{landed_covers}
use Rattle.txn_core.specs.State.{TxState}
use Rattle.shard_core.specs.Whole.{HasRoom}
use Rattle.shard_core.proofs.Logged.{All, logged_above}
use Rattle.shard_core.proofs.Changing.{cover_purged}
use Rattle.shard_core.proofs.Flying.{upto_is, landed_flies, room_landed, known_landed}
use Rattle.shard_core.proofs.Parts.{Parts, seen, Changed, rest_of, covered}
use Rattle.shard_core.specs.Core.{Core}
use Rattle.shard_core.proofs.shard.ShardCore.land_here.Given as given
use Rattle.shard_core.proofs.shard.ShardCore.land_here.Goals as goal

pub land_noted-requires : goal.land_noted-requires
land_noted-requires g c = let i = c.self.inside in
    let a : Parts = record { shard = i.shard; run = i.run; transactions = i.transactions; participant = i.participant; coordinator = i.coordinator; prepares = i.prepares; outbox = i.outbox; candidates = i.candidates } in
    room_landed (seen a) i.transactions.durable i.transactions.taken i.candidates c.self.invariant.candidates c.self.invariant.dependents c.self.invariant.logged

unfoldable before : (g : given.Over) (c : goal.After-land_noted g) → Parts
before g c = let i = c.self.inside in record {
  shard = i.shard;
  run = i.run;
  transactions = i.transactions;
  participant = i.participant;
  coordinator = i.coordinator;
  prepares = i.prepares;
  outbox = i.outbox;
  candidates = i.candidates;
}

the_change : (g : given.Over) (c : goal.After-land_noted g) → Changed (record (before g c) { transactions = c.land_noted.new.transactions; candidates = c.land_noted.new.candidates }) (with_durable c.args.upto (seen (before g c)))
unfolding before
the_change g c =
    let a = before g c in let s : Shard = seen a in let t = c.self.inside.transactions in let e = c.land_noted.ensures in
    let b : Parts = record a { transactions = c.land_noted.new.transactions; candidates = c.land_noted.new.candidates } in let r = c.self.invariant.room in
    let rest = rest_of a c.args.self.now c.self.view_is c.requires.rest in
    let upto = upto_is t.durable t.taken c.args.upto (subst (λ (v : Core). v.shard.flight ≡ Some c.args.upto) (sym c.self.view_is) c.requires.flies) in
    let V : Shard = with_durable t.taken s in
    subst (λ n. Changed b (with_durable n s)) upto
    (covered a b V c.self.invariant
    (ap (λ (x : TxState). seen (record a { transactions = x })) e.durable ∙ landed_flies s t.taken ∙ ap (λ l. record V { local = l }) (sym (ap (λ (x : TxState). purge x.local) (sym e.durable) ∙ e.purged ∙ ap (λ (x : TxState). x.local) e.durable)))
    (cover_purged V b.candidates.txs (landed_covers s t.taken a.candidates.txs b.candidates.txs e.order (subst (λ xs. Cover xs s) (sym rest.none) rest.ready.cover) e.txs))
    (record { shard = refl; transactions = ap (λ (x : TxState). x.shard) e.durable; participant = refl; coordinator = refl })
    (subst (λ (x : TxState). ArePrepares a.prepares.rows (x.local).log) (sym e.durable) c.self.invariant.prepares)
    c.self.invariant.dependents
    (subst (λ (x : TxState). All (known_keys s) (drop x.durable (x.local).log)) (sym e.durable) (logged_above (known_keys s) t.durable t.taken t.local.log e.order c.self.invariant.logged))
    (known_landed s V t.durable t.taken a.candidates b.candidates c.self.invariant.candidates c.self.invariant.dependents c.self.invariant.logged e.txs e.limit)
    (subst (λ (x : TxState). HasRoom V x a.outbox) (sym e.durable) (record { records = r.records; pairs = r.pairs; messages = r.messages }))
    rest.ready.requests
    (record { sound = e.sound; purged = e.purged; rise = e.rise; few = e.few }))

pub invariant_of-self : goal.invariant_of-self
unfolding before
invariant_of-self g c = (the_change g c).whole

pub returns-clause-ready : goal.returns-clause-ready
unfolding before
returns-clause-ready g c = (the_change g c).ready

pub returns-clause-finished : goal.returns-clause-finished
unfolding before
returns-clause-finished g c = (the_change g c).finished ∙ ap (λ (v : Core). finish (with_durable c.args.upto v.shard)) c.self.view_is

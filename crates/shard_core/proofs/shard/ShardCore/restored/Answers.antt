-- The parts are those that a restart makes.
use Rattle.std.proofs.Common.{refl, sym, ap, subst, ◌∙◌, ℕ, List, length, arith}
use Rattle.clv_base.specs.Coordinator.{restored_requests}
use Rattle.clv_base.specs.Participant.{restored_voters}
use Rattle.clv_base.specs.Orders.{Table}
use Rattle.two_phase_commit.specs.Coordinated.{AreNamed}
use Rattle.shard_core.proofs.Made.{AreMade, made_is, made_rests, made_holds}
use Rattle.shard_core.proofs.Parts.{Parts}
use Rattle.shard_core.proofs.shard.ShardCore.restored.Given as given
use Rattle.shard_core.proofs.shard.ShardCore.restored.Goals as goal

unfoldable after : (g : given.Over) (c : goal.In-Ok-transactions_of g) → Parts
after g c = let m = c.in-Ok.beside in record { shard = c.args.shard; run = c.args.run; transactions = c.in-Ok-transactions_of.transactions; participant = m.tables.participant; coordinator = m.tables.coordinator; prepares = m.tables.prepares; outbox = m.rooms.outbox; candidates = m.rooms.candidates }

made : (g : given.Over) (c : goal.In-Ok-transactions_of g) → AreMade c.args.shard c.args.epoch c.in-Ok.beside.count c.args.recovered.buffer.records (after g c)
unfolding after
made g c =
    let e = c.in-Ok.ensures in let t = c.in-Ok-transactions_of.ensures in
    let one = ap length c.requires.doubtful in let two = ap length c.requires.unended in let count = e.count in
    record {
      shard = refl;
      transactions = t.shard;
      local = t.local;
      durable = t.durable;
      taken = t.taken;
      participant = e.participant;
      voters = e.voters ∙ ap restored_voters c.requires.doubtful;
      coordinator = e.coordinator;
      requests = e.requests ∙ ap restored_requests c.requires.unended;
      prepares = e.prepares;
      messages = e.messages;
      none = e.none;
      enough = omega (arith, one, two, count);
      records = t.spare;
      pairs = t.pairs;
      mail = e.room;
      places = e.places;
    }

pub beside_of-requires-clause-named : goal.beside_of-requires-clause-named
beside_of-requires-clause-named g c =
    let log = c.args.recovered.buffer.records in
    subst (λ (rows : Table (List ℕ)). AreNamed rows) (sym c.requires.unended) (c.unended_rise.ensures.named log log c.requires.spelled)

pub transactions_of-requires : goal.transactions_of-requires
transactions_of-requires g c = (c.args.run, c.requires)

pub invariant_of-result : goal.invariant_of-result
unfolding after
invariant_of-result g c = made_holds c.args.shard c.args.epoch c.in-Ok.beside.count c.args.recovered.buffer.records (after g c) (made g c) c.restarts_have_parts.ensures

pub returns-clause-rest : goal.returns-clause-rest
unfolding after
returns-clause-rest g c = made_rests c.args.shard c.args.epoch c.in-Ok.beside.count c.args.recovered.buffer.records (after g c) (made g c) c.restarts_end_at_rest.ensures c.unended_rise.ensures.rise

pub returns-clause-shard : goal.returns-clause-shard
unfolding after
returns-clause-shard g c = made_is c.args.shard c.args.epoch c.in-Ok.beside.count c.args.recovered.buffer.records (after g c) (made g c)

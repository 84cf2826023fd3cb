-- A request's row less, and nobody is touched.
use Rattle.std.proofs.Common.{◌≡◌, Some, None, refl, sym, ap, subst, ◌∙◌}
use Rattle.std.specs.List.Sorted.{IsStrictlySortedBy}
use Rattle.std.specs.Map.{keys_of}
use Rattle.clv_base.specs.declared.state.Stage.TheVariants.{Gone}
use Rattle.clv_base.specs.Orders.{tx_cmp, tx_get}
use Rattle.clv_base.specs.Undo.{stage_of}
use Rattle.two_phase_commit.specs.Coordinated.{Coordination}
use Rattle.shard_core.specs.Core.{Core}
use Rattle.shard_core.proofs.Parts.{Parts, seen, Changed, rest_of}
use Rattle.shard_core.proofs.Forgotten.{dropped, forgotten, forgotten_rest}
use Rattle.shard_core.proofs.shard.ShardCore.forget_request.Given as given
use Rattle.shard_core.proofs.shard.ShardCore.forget_request.Goals as goal

unfoldable before : (g : given.Over) (c : goal.After-kept g) → Parts
before g c = let i = c.self.inside in record {
  shard = i.shard;
  run = i.run;
  transactions = i.transactions;
  participant = i.participant;
  coordinator = i.coordinator;
  prepares = i.prepares;
  outbox = i.outbox;
  candidates = i.candidates;
}

the_change : (g : given.Over) (c : goal.After-kept g) → Changed (record (before g c) { coordinator = c.forget-request.new.self }) (dropped c.args.tx (seen (before g c)))
unfolding before
the_change g c =
    let a = before g c in
    forgotten c.due_by_facts.ensures a c.args.tx c.forget-request.new.self (rest_of a c.args.self.now c.self.view_is c.requires.rest) c.self.invariant
    (subst (λ (v : Core). stage_of v.shard.local c.args.tx ≡ Some (Gone None)) (sym c.self.view_is) c.requires.finished) c.forget-request.ensures.requests c.forget-request.ensures.keys c.kept.ensures.sound c.kept.ensures.purged

pub invariant_of-self : goal.invariant_of-self
unfolding before
invariant_of-self g c = (the_change g c).whole

pub returns-clause-shard : goal.returns-clause-shard
unfolding before
returns-clause-shard g c =
    ap (λ (k : Coordination). seen (record (before g c) { coordinator = k })) c.forget-request.ensures.requests ∙ ap (λ (v : Core). dropped c.args.tx v.shard) c.self.view_is

pub returns-clause-rest : goal.returns-clause-rest
unfolding before
returns-clause-rest g c =
    let a = before g c in forgotten_rest a (record a { coordinator = c.forget-request.new.self }) (dropped c.args.tx (seen a)) (rest_of a c.args.self.now c.self.view_is c.requires.rest) refl (the_change g c)

pub returns-clause-given : goal.returns-clause-given
returns-clause-given g c = c.forget-request.ensures.given ∙ ap (λ (v : Core). tx_get c.args.tx v.shard.requests) c.self.view_is

pub returns-clause-rising : goal.returns-clause-rising
unfolding before
returns-clause-rising g c =
    subst (λ (v : Core). IsStrictlySortedBy tx_cmp (keys_of v.shard.requests)) c.self.view_is (rest_of (before g c) c.args.self.now c.self.view_is c.requires.rest).ready.requests

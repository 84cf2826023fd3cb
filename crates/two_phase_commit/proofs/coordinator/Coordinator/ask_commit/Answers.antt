-- A new request is fit, and the others are as they were.
use Rattle.std.proofs.Common.{◌≡◌, ℕ, true, map, refl, sym, subst}
use Rattle.clv_base.specs.declared.state.Request.{Request}
use Rattle.clv_base.specs.declared.state.RequestState.TheVariants.{Undecided}
use Rattle.clv_base.specs.Coordinator.{new_request}
use Rattle.clv_base.specs.Orders.{nat_in}
use Rattle.clv_base.specs.FileRules.{tx_has_spelling}
use Rattle.two_phase_commit.specs.Coordinated.{Coordination, IsFit}
use Rattle.two_phase_commit.proofs.Acked.{has_home, new_fit}
use Rattle.two_phase_commit.proofs.Few.{few_others}
use Rattle.two_phase_commit.proofs.Requests.{put_passing}
use Rattle.two_phase_commit.proofs.coordinator.Coordinator.ask_commit.Goals as goal

pub invariant_of-self : goal.invariant_of-self
invariant_of-self c =
    let shard = c.self.inside.shard in let own = subst (λ (v : Coordination). nat_in v.shard (map (λ (t : ℕ × ℕ). t.0) c.args.touched) ≡ true) (sym c.self.view_is) c.requires.own in
    let few = few_others shard c.args.touched c.requires.rising c.requires.low own in
    let fit = subst (λ (q : Request). IsFit shard q) (sym c.in-Ok.ensures) (new_fit shard (new_request c.args.touched Undecided) (has_home shard c.args.touched own) few c.requires.low c.requires.rising refl refl) in (
      put_passing c.put_request.result (λ p. IsFit shard p.1) c.args.tx c.in-Ok.request c.self.inside.requests.entries c.put_request.new.requests.entries fit c.self.invariant.0
          c.put_request.ensures.ok c.put_request.ensures.err,
      c.put_request.ensures.index,
      c.put_request.ensures.asked,
      put_passing c.put_request.result (λ p. tx_has_spelling p.0 ≡ true) c.args.tx c.in-Ok.request c.self.inside.requests.entries c.put_request.new.requests.entries c.requires.name c.self.invariant.3 c.put_request.ensures.ok c.put_request.ensures.err,
    )

-- The request that is there takes it, or stays.
use Rattle.std.proofs.Common.{◌≡◌, true, cond, Option, Some, sym, ap, subst, ◌∙◌}
use Rattle.clv_base.specs.declared.state.Request.{Request}
use Rattle.clv_base.specs.FileRules.{tx_has_spelling}
use Rattle.clv_base.specs.Orders.{Table, tx_get, tx_set}
use Rattle.clv_base.specs.Coordinator.{with_vote_of}
use Rattle.law_base.proofs.Rows.{rows_get, rows_set}
use Rattle.two_phase_commit.specs.Coordinated.{Coordination, IsFit, AreFit, AreNamed, requests_with}
use Rattle.two_phase_commit.specs.Asked.{AreAsked}
use Rattle.two_phase_commit.specs.Waiting.{waits}
use Rattle.two_phase_commit.proofs.Over.{vote_waits}
use Rattle.two_phase_commit.proofs.Requests.{set_if, state_of}
use Rattle.two_phase_commit.proofs.Told.{told_kept, vote_told}
use Rattle.tx_table.specs.Index.{IsIndex}
use Rattle.tx_table.proofs.Laws.{index_same}
use Rattle.two_phase_commit.proofs.coordinator.Coordinator.on_vote.Goals as goal

pub take_vote-requires : goal.take_vote-requires
take_vote-requires c = rows_get (λ p. IsFit c.self.inside.shard p.1) c.args.tx c.in-Some.request.now c.self.inside.requests.entries c.self.invariant.0 (sym c.in-Some.ensures.value)

pub invariant_of-self-2 : goal.invariant_of-self-2
invariant_of-self-2 c =
    let shard = c.self.inside.shard in let old = c.self.inside.requests.entries in let q = c.in-Some.request.now in let now = c.take_vote.new.self in
    let same : waits shard now ≡ waits shard q = ap (waits shard) c.take_vote.ensures.request ∙ vote_waits shard c.args.from c.args.vote q c.take_vote.result in
    let name = rows_get (λ p. tx_has_spelling p.0 ≡ true) c.args.tx q old c.self.invariant.3 (sym c.in-Some.ensures.value) in
    subst (λ (rs : Table Request). AreFit shard rs × IsIndex (waits shard) rs c.self.inside.waiting × AreAsked shard c.self.inside.asked.rows rs × AreNamed rs) (sym (c.get_mut.follows.holds now).0)
    (rows_set (λ p. IsFit shard p.1) c.args.tx now old c.take_vote.ensures.fit c.self.invariant.0, index_same (waits shard) c.args.tx now q old c.self.inside.waiting (sym c.in-Some.ensures.value) same c.self.invariant.1, told_kept shard c.args.tx now q c.self.inside.asked.rows old (sym c.in-Some.ensures.value) c.self.invariant.2 (vote_told shard c.args.from c.args.vote q now c.take_vote.result c.take_vote.ensures.taken c.take_vote.ensures.request), rows_set (λ p. tx_has_spelling p.0 ≡ true) c.args.tx now old name c.self.invariant.3)

pub returns-clause-requests : goal.returns-clause-requests
returns-clause-requests c =
    let shard = c.self.inside.shard in let tx = c.args.tx in let old = c.self.inside.requests.entries in let q = c.in-Some.request.now in let now = c.take_vote.new.self in
    let there : tx_get tx old ≡ Some q = sym c.in-Some.ensures.value in
    let set : (c.get_mut.follows.lender now).entries ≡ requests_with tx shard c.args.from c.args.vote (tx_get tx old) old =
    (c.get_mut.follows.holds now).0 ∙ ap (λ (w : Request). tx_set tx w old) c.take_vote.ensures.request
    ∙ set_if tx c.take_vote.result (with_vote_of c.args.from c.args.vote q) q old there
    ∙ ap (λ b. cond b (tx_set tx (with_vote_of c.args.from c.args.vote q) old) old) c.take_vote.ensures.taken
    ∙ ap (λ (o : Option Request). requests_with tx shard c.args.from c.args.vote o old) (sym there) in
    subst (λ (v : Coordination). ◌≡◌ {A = Coordination} (state_of shard (c.get_mut.follows.lender now).entries) (state_of v.shard (requests_with tx v.shard c.args.from c.args.vote (tx_get tx v.requests) v.requests))) c.self.view_is (ap (state_of shard) set)

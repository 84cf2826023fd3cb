-- The request that is there takes it, or stays.
use Rattle.std.proofs.Common.{◌≡◌, true, false, cond, Option, Some, sym, ap, subst, ◌∙◌}
use Rattle.clv_base.specs.declared.state.Request.{Request}
use Rattle.clv_base.specs.FileRules.{tx_has_spelling}
use Rattle.clv_base.specs.Orders.{Table, tx_get, tx_set}
use Rattle.clv_base.specs.Coordinator.{with_done_of}
use Rattle.law_base.proofs.Rows.{rows_get, rows_set}
use Rattle.two_phase_commit.specs.Coordinated.{Coordination, IsFit, AreFit, AreNamed, requests_done}
use Rattle.two_phase_commit.specs.Asked.{AreAsked}
use Rattle.two_phase_commit.specs.Waiting.{waits}
use Rattle.two_phase_commit.proofs.Over.{done_waits, after_change}
use Rattle.two_phase_commit.proofs.Requests.{set_if, state_of}
use Rattle.two_phase_commit.proofs.Told.{done_told, told_kept}
use Rattle.tx_table.specs.Index.{IsIndex}
use Rattle.two_phase_commit.proofs.coordinator.Coordinator.on_done.Goals as goal

pub take_done-taken-requires : goal.take_done-taken-requires
take_done-taken-requires c = rows_get (λ p. IsFit c.self.inside.shard p.1) c.args.tx c.in-Some.request.now c.self.inside.requests.entries c.self.invariant.0 (sym c.in-Some.ensures.value)

pub invariant_of-self-2 : goal.invariant_of-self-2
invariant_of-self-2 c =
    let shard = c.self.inside.shard in let old = c.self.inside.requests.entries in let q = c.in-Some.request.now in let now = c.take_done-taken.new.self in
    let down : waits shard q ≡ false → waits shard now ≡ false = λ e. ap (waits shard) c.take_done-taken.ensures.request ∙ done_waits shard c.args.from q c.take_done-taken.result e in
    let index = after_change shard c.args.tx now q old c.self.inside.waiting c.keep_if.new.self c.waits-stays.result (sym c.in-Some.ensures.value) down c.self.invariant.1 c.waits-stays.ensures c.keep_if.ensures.members in
    let name = rows_get (λ p. tx_has_spelling p.0 ≡ true) c.args.tx q old c.self.invariant.3 (sym c.in-Some.ensures.value) in
    subst (λ (rs : Table Request). AreFit shard rs × IsIndex (waits shard) rs c.keep_if.new.self × AreAsked shard c.self.inside.asked.rows rs × AreNamed rs) (sym (c.get_mut.follows.holds now).0)
    (rows_set (λ p. IsFit shard p.1) c.args.tx now old c.take_done-taken.ensures.fit c.self.invariant.0, index, told_kept shard c.args.tx now q c.self.inside.asked.rows old (sym c.in-Some.ensures.value) c.self.invariant.2 (done_told shard c.args.from q now c.take_done-taken.result c.take_done-taken.ensures.taken c.take_done-taken.ensures.request), rows_set (λ p. tx_has_spelling p.0 ≡ true) c.args.tx now old name c.self.invariant.3)

pub returns-clause-requests : goal.returns-clause-requests
returns-clause-requests c =
    let shard = c.self.inside.shard in let tx = c.args.tx in let old = c.self.inside.requests.entries in let q = c.in-Some.request.now in let now = c.take_done-taken.new.self in
    let there : tx_get tx old ≡ Some q = sym c.in-Some.ensures.value in
    let set : (c.get_mut.follows.lender now).entries ≡ requests_done tx c.args.from (tx_get tx old) old =
    (c.get_mut.follows.holds now).0 ∙ ap (λ (w : Request). tx_set tx w old) c.take_done-taken.ensures.request
    ∙ set_if tx c.take_done-taken.result (with_done_of c.args.from q) q old there
    ∙ ap (λ b. cond b (tx_set tx (with_done_of c.args.from q) old) old) c.take_done-taken.ensures.taken
    ∙ ap (λ (o : Option Request). requests_done tx c.args.from o old) (sym there) in
    subst (λ (v : Coordination). ◌≡◌ {A = Coordination} (state_of shard (c.get_mut.follows.lender now).entries) (state_of v.shard (requests_done tx c.args.from (tx_get tx v.requests) v.requests))) c.self.view_is (ap (state_of shard) set)

-- The request that is there takes it, or stays.
use Rattle.std.proofs.Common.{◌≡◌, true, false, Option, Some, sym, ap, subst, ◌∙◌}
use Rattle.clv_base.specs.declared.state.Request.{Request}
use Rattle.clv_base.specs.FileRules.{tx_has_spelling}
use Rattle.clv_base.specs.Orders.{Table, tx_get, tx_set}
use Rattle.law_base.proofs.Rows.{rows_get, rows_set}
use Rattle.two_phase_commit.specs.Coordinated.{Coordination, IsFit, AreFit, AreNamed, IsSpelledRuling, requests_by, ruled, ruling_of}
use Rattle.two_phase_commit.specs.Asked.{AreAsked}
use Rattle.two_phase_commit.specs.Waiting.{waits}
use Rattle.two_phase_commit.proofs.Over.{ruled_waits, after_change}
use Rattle.two_phase_commit.proofs.Requests.{set_ruled, state_of}
use Rattle.two_phase_commit.proofs.Spelling.{ruling_spelled}
use Rattle.two_phase_commit.proofs.Told.{told_set}
use Rattle.std.specs.Option.{IfSome}
use Rattle.clv_base.specs.declared.state.Ruling.{Ruling}
use Rattle.clv_base.specs.Coordinator.{ruling_by}
use Rattle.tx_table.specs.Index.{IsIndex}
use Rattle.two_phase_commit.proofs.coordinator.Coordinator.decision_due.Goals as goal

pub rule-ruling-requires : goal.rule-ruling-requires
rule-ruling-requires c = rows_get (λ p. IsFit c.self.inside.shard p.1) c.args.tx c.in-Some.request.now c.self.inside.requests.entries c.self.invariant.0 (sym c.in-Some.ensures.value)

pub invariant_of-self-2 : goal.invariant_of-self-2
invariant_of-self-2 c =
    let shard = c.self.inside.shard in let old = c.self.inside.requests.entries in let q = c.in-Some.request.now in let now = c.rule-ruling.new.self in
    let made : now ≡ ruled (ruling_by shard c.args.tx q c.args.facts.now) q = c.rule-ruling.ensures.request ∙ ap (λ (r : Option Ruling). ruled r q) c.rule-ruling.ensures.ruling in
    let down : waits shard q ≡ false → waits shard now ≡ false = λ e. ap (waits shard) made ∙ ruled_waits shard c.args.tx q c.args.facts.now e in
    let index = after_change shard c.args.tx now q old c.self.inside.waiting c.keep_if.new.self c.waits-stays.result (sym c.in-Some.ensures.value) down c.self.invariant.1 c.waits-stays.ensures c.keep_if.ensures.members in
    let name = rows_get (λ p. tx_has_spelling p.0 ≡ true) c.args.tx q old c.self.invariant.3 (sym c.in-Some.ensures.value) in
    subst (λ (rs : Table Request). AreFit shard rs × IsIndex (waits shard) rs c.keep_if.new.self × AreAsked shard c.replace.new.self.rows rs × AreNamed rs) (sym (c.get_mut.follows.holds now).0)
    (rows_set (λ p. IsFit shard p.1) c.args.tx now old c.rule-ruling.ensures.fit c.self.invariant.0, index, told_set shard c.args.tx c.brief-brief.result now q c.self.inside.asked.rows c.replace.new.self.rows old (sym c.in-Some.ensures.value) c.self.invariant.2 c.brief-brief.ensures c.replace.ensures.rows, rows_set (λ p. tx_has_spelling p.0 ≡ true) c.args.tx now old name c.self.invariant.3)

pub returns-clause-requests : goal.returns-clause-requests
returns-clause-requests c =
    let shard = c.self.inside.shard in let tx = c.args.tx in let old = c.self.inside.requests.entries in let q = c.in-Some.request.now in let now = c.rule-ruling.new.self in
    let there : tx_get tx old ≡ Some q = sym c.in-Some.ensures.value in
    let set : (c.get_mut.follows.lender now).entries ≡ requests_by tx (tx_get tx old) c.rule-ruling.result old =
    (c.get_mut.follows.holds now).0 ∙ ap (λ (w : Request). tx_set tx w old) c.rule-ruling.ensures.request
    ∙ set_ruled tx c.rule-ruling.result q old there
    ∙ ap (λ (o : Option Request). requests_by tx o c.rule-ruling.result old) (sym there) in
    subst (λ (v : Coordination). ◌≡◌ {A = Coordination} (state_of shard (c.get_mut.follows.lender now).entries) (state_of v.shard (requests_by tx (tx_get tx v.requests) c.rule-ruling.result v.requests))) c.self.view_is (ap (state_of shard) set)

pub returns-clause-ruling : goal.returns-clause-ruling
returns-clause-ruling c =
    let f = c.args.facts.now in
    c.rule-ruling.ensures.ruling ∙ ap (ruling_of c.self.inside.shard c.args.tx f) c.in-Some.ensures.value ∙ ap (λ (v : Coordination). ruling_of v.shard c.args.tx f (tx_get c.args.tx v.requests)) c.self.view_is

pub returns-clause-spelled : goal.returns-clause-spelled
returns-clause-spelled c =
    let shard = c.self.inside.shard in let tx = c.args.tx in let old = c.self.inside.requests.entries in let q = c.in-Some.request.now in
    let there : tx_get tx old ≡ Some q = sym c.in-Some.ensures.value in
    subst (λ (o : Option Ruling). IfSome o (IsSpelledRuling tx)) (sym c.rule-ruling.ensures.ruling)
    (ruling_spelled shard tx q c.args.facts.now (rows_get (λ p. IsFit shard p.1) tx q old c.self.invariant.0 there) (rows_get (λ p. tx_has_spelling p.0 ≡ true) tx q old c.self.invariant.3 there))

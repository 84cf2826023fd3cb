-- The request goes from the table, its index and what is told beside it.
use Rattle.std.proofs.Common.{◌≡◌, ◌∙◌, true, sym, ap, subst}
use Rattle.clv_base.specs.declared.state.Request.{Request}
use Rattle.clv_base.specs.FileRules.{tx_has_spelling}
use Rattle.clv_base.specs.Orders.{Table, tx_get, tx_drop}
use Rattle.tx_table.specs.Index.{IsIndex}
use Rattle.two_phase_commit.specs.Coordinated.{Coordination, IsFit, AreFit, AreNamed}
use Rattle.two_phase_commit.specs.Asked.{AreAsked}
use Rattle.two_phase_commit.specs.Waiting.{waits}
use Rattle.two_phase_commit.proofs.Forgotten.{rows_drop, index_drop, told_drop}
use Rattle.two_phase_commit.proofs.coordinator.Coordinator.forget.Goals as goal

pub invariant_of-self : goal.invariant_of-self
invariant_of-self c =
    let tx = c.args.tx in let shard = c.self.inside.shard in let old = c.self.inside.requests.entries in let rise = c.len-all.ensures.ordered in
    let cut : c.remove-request.new.self.entries ≡ tx_drop tx old = c.remove-request.ensures.entries in
    subst (λ (rs : Table Request). AreFit shard rs × IsIndex (waits shard) rs c.keep_if.new.self × AreAsked shard c.remove.new.self.rows rs × AreNamed rs) (sym cut) (
      rows_drop (λ p. IsFit shard p.1) tx old c.self.invariant.0,
      index_drop (waits shard) tx old c.self.inside.waiting c.keep_if.new.self rise c.self.invariant.1 c.keep_if.ensures.members,
      told_drop shard tx c.self.inside.asked.rows c.remove.new.self.rows old rise c.self.invariant.2 c.remove.ensures.rows,
      rows_drop (λ p. tx_has_spelling p.0 ≡ true) tx old c.self.invariant.3,
    )

pub returns-clause-given : goal.returns-clause-given
returns-clause-given c =
    let value : c.remove-request.result ≡ tx_get c.args.tx c.self.inside.requests.entries = c.remove-request.ensures.value in
    value ∙ ap (λ (v : Coordination). tx_get c.args.tx v.requests) c.self.view_is

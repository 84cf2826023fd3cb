-- Nothing is found by the part, its COMMIT and the request alone, where nobody votes on it.
use Rattle.std.proofs.Common.{◌≡◌, ◌&&◌, false, Option, Some, None, is_none, is_some, refl, sym, ap, ◌∙◌}
use Rattle.clv_base.specs.declared.parts.PartFacts.{PartFacts}
use Rattle.clv_base.specs.Orders.{tx_get}
use Rattle.clv_base.specs.Logs.{commit_lsn, is_below}
use Rattle.clv_base.specs.Undo.{stage_of}
use Rattle.clv_base.specs.Facts.{facts_of, is_closed_state, is_waiting, state_by, doom_by}
use Rattle.two_phase_commit.specs.Coordinated.{ruling_of}
use Rattle.two_phase_commit.specs.Voting.{home_by}
use Rattle.due_step.specs.Found.{is_commit_due}
use Rattle.due_step.proofs.Sought.{finds_nothing}
use Rattle.due_step.proofs.seeking.seek_due.Goals as goal

nobody : {X : Type 0} (o : Option X) → is_some o ≡ false → o ≡ None
nobody None e = refl
nobody (Some x) e = absurd cc

pub returns-then-rests-clause-found : goal.returns-then-rests-clause-found
returns-then-rests-clause-found g c = λ s shard voters requests f.
    let tx = c.args.tx in let l = c.args.transactions.now.local in
    let stage = c.stage_of-stage.ensures in let commit = c.commit_of-commit.ensures in
    let landed =
    c.if-is_landed.ensures ∙ ap (λ o. is_closed_state (state_by o) && is_below c.commit_of-commit.result c.durable.result) stage
    ∙ ap (λ k. is_closed_state (state_by (stage_of l tx)) && is_below k c.durable.result) commit
    ∙ ap (λ d. is_closed_state (state_by (stage_of l tx)) && is_below (commit_lsn l.log tx) d) c.durable.ensures.durable in
    let waits = c.waits.ensures ∙ ap (λ o. is_closed_state (state_by o) && is_none c.commit_of-commit.result) stage ∙ ap (λ k. is_closed_state (state_by (stage_of l tx)) && is_none k) commit in
    let doomed = c.is_doomed.ensures ∙ ap (λ o. is_some (doom_by o)) stage in
    let ruling = c.if-rests.ensures refl (facts_of s tx) (ap is_waiting f ∙ sym waits) (ap (λ (x : PartFacts). is_some x.doom) f ∙ sym doomed) in
    let found = finds_nothing s tx (ap is_commit_due f ∙ sym landed) (ap (λ vs. home_by (tx_get tx vs)) voters ∙ sym c.home_of.ensures ∙ nobody c.home_of.result c.if-is_none.ensures)
    (ap (λ n. ruling_of n tx (facts_of s tx) (tx_get tx s.requests)) shard ∙ ap (λ rs. ruling_of c.args.coordinator.now.shard tx (facts_of s tx) (tx_get tx rs)) requests ∙ ruling) in (found.0, sym voters, sym requests)

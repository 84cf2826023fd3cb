-- The turn over the parts.
use Rattle.std.proofs.Common.{◌≡◌, sym, ap, subst, ◌∙◌, Some}
use Rattle.clv_base.specs.State.{Shard}
use Rattle.clv_base.specs.Due.{due_of}
use Rattle.due_step.specs.Ready.{IsReady, IsDone, least}
use Rattle.due_step.specs.Steps.{Steps}
use Rattle.due_step.specs.declared.finding.Due.TheVariants.{Commit}
use Rattle.shard_core.specs.Core.{Core, seen_as}
use Rattle.shard_core.specs.Finished.{IsFinished}
use Rattle.shard_core.proofs.Finishing.{commit_finishes}
use Rattle.shard_core.proofs.Seeing.{seen_done, seen_now}
use Rattle.shard_core.proofs.Turned.{Turned, turned, doomed_room}
use Rattle.shard_core.proofs.shard.ShardCore.do_first.Given as given
use Rattle.shard_core.proofs.shard.ShardCore.do_first.Goals as goal

pub do_one-due-requires-clause-candidates : goal.do_one-due-requires-clause-candidates
do_one-due-requires-clause-candidates g c =
    let i = c.self.inside in
    doomed_room (seen_as i.run i.transactions i.participant i.coordinator i.outbox) c.args.tx i.candidates c.self.invariant.candidates c.self.invariant.dependents
    (subst (λ (v : Core). least v.candidates ≡ Some c.args.tx) (sym c.self.view_is) c.requires.first)

the_turn : (g : given.Over) (c : goal.After-first-least g)
    → Turned c.self.inside.run c.self.inside.shard c.self.inside.prepares.rows c.self.inside.transactions c.do_one-due.new.transactions c.self.inside.participant c.do_one-due.new.participant
    c.self.inside.coordinator c.do_one-due.new.coordinator c.self.inside.outbox c.do_one-due.new.outbox c.self.inside.candidates c.do_one-due.new.candidates c.args.tx c.do_one-due.result
the_turn g c =
    let i = c.self.inside in let n = c.do_one-due.new in let e = c.do_one-due.ensures in
    turned i.run i.shard i.prepares.rows i.transactions n.transactions i.participant n.participant i.coordinator n.coordinator i.outbox n.outbox i.candidates n.candidates c.args.tx c.do_one-due.result
    c.self.invariant (subst (λ (v : Core). IsReady v.shard v.candidates v.limit) (sym c.self.view_is) c.requires.ready) (subst (λ (v : Core). least v.candidates ≡ Some c.args.tx) (sym c.self.view_is) c.requires.first)
    (e.steps (seen_as i.run i.transactions i.participant i.coordinator i.outbox) (seen_now i.run i.transactions i.participant i.coordinator i.outbox (c.self.invariant.home)))
    e.idle e.taken e.shard e.noted e.room e.pairs_room e.messages_room c.kept.ensures.sound c.kept.ensures.purged c.first-least.ensures.rise c.first-least.ensures.few

pub invariant_of-self : goal.invariant_of-self
invariant_of-self g c = (the_turn g c).whole

pub returns-clause-done : goal.returns-clause-done
returns-clause-done g c = λ b. let n = c.do_one-due.new in let i = c.self.inside in
    subst (λ (v : Core). IsDone (due_of v.shard c.args.tx) (seen_as i.run n.transactions n.participant n.coordinator n.outbox)) c.self.view_is ((the_turn g c).done b)

pub returns-clause-nothing : goal.returns-clause-nothing
returns-clause-nothing g c = λ b. let n = (the_turn g c).nothing b in
    (ap (λ (v : Core). due_of v.shard c.args.tx) (sym c.self.view_is) ∙ n.0, n.1 ∙ ap (λ (v : Core). v.shard) c.self.view_is, n.2 ∙ ap (λ (v : Core). v.candidates) c.self.view_is)

pub returns-clause-ready : goal.returns-clause-ready
returns-clause-ready g c = (the_turn g c).ready

pub returns-clause-finished : goal.returns-clause-finished
returns-clause-finished g c = λ e.
    let i = c.self.inside in let n = c.do_one-due.new in let made = c.do_one-due.ensures in
    let s : Shard = seen_as i.run i.transactions i.participant i.coordinator i.outbox in
    let steps = subst (λ d. Steps s c.args.tx d n.transactions n.participant n.coordinator n.outbox) e (made.steps s (seen_now i.run i.transactions i.participant i.coordinator i.outbox c.self.invariant.home)) in
    subst (λ (x : Shard). IsFinished x.local c.args.tx) (sym (seen_done i.run i.transactions n.transactions i.participant n.participant i.coordinator n.coordinator i.outbox n.outbox c.args.tx Commit made.taken steps.1)) (commit_finishes s c.args.tx)

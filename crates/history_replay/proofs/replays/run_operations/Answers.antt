use Rattle.std.proofs.Common.{ap, ◌∙◌, []}
use Rattle.history_replay.specs.Acting.{acts_of}
use Rattle.history_replay.proofs.Acting.{no_back, onward_step, told_step, rest_step}
use Rattle.clv_base.specs.Maps.{acts_after, acts_answers}
use Rattle.history_replay.proofs.replays.run_operations.Goals as goal
use Rattle.history_replay.proofs.replays.run_operations.Goals.{in-Operates+in_ok-apply+in_ok-push, in_default}

pub loop-act-preserved : goal.loop-act-preserved
loop-act-preserved c =
    let acts = c.args.acts.now in
    let i = c.loop-act.act-index in
    let a = c.act-item.result in
    let inside = c.loop-act-test.true in
    let none = c.loop-act.invariant.onward in
    elim c.match-act.branch [
      | in-Operates+in_ok-apply+in_ok-push w ↦ record {
        onward = onward_step acts i a inside c.act-item.is none;
        told =
            told_step acts i a inside c.act-item.is none w.in-Operates.number w.in-Operates.op c.loop-act.pairs c.match-act.pairs w.in_ok-apply.field-0 c.loop-act.answers.items c.match-act.answers.items (acts_answers (acts_of acts) c.args.pairs.now [])
            w.in-Operates.is w.in_ok-apply.ensures.answer (w.pairs-is ∙ w.in_ok-apply.ensures.after) (ap (λ v. v.items) w.answers-is ∙ w.in_ok-push.ensures.items) c.loop-act.invariant.told;
        rest =
            rest_step acts i a inside c.act-item.is none w.in-Operates.number w.in-Operates.op c.loop-act.pairs c.match-act.pairs (acts_after (acts_of acts) c.args.pairs.now [])
            w.in-Operates.is (w.pairs-is ∙ w.in_ok-apply.ensures.after) c.loop-act.invariant.rest;
      }
      | in_default w ↦ absurd (no_back acts i a inside c.act-item.is none w.in_default.field-0 w.in_default.field-1 w.in_default.is)
    ]

use Rattle.std.proofs.Common.{◌≡◌, ◌++◌, ◌∷◌, [], List, sym, ap, ◌∙◌}
use Rattle.clv_base.specs.declared.ops.Answer.{Answer}
use Rattle.clv_base.specs.Maps.{KeyMap, acts_after, acts_answers, act_after, act_answers}
use Rattle.clv_base.specs.Backs.{answers_by}
use Rattle.history_replay.specs.Acting.{acts_of, doing, trail_over}
use Rattle.history_replay.proofs.Acting.{now_step, told_with, rest_with, joined_one, joined_none}
use Rattle.history_replay.proofs.replays.run_acts.Goals as goal
use Rattle.history_replay.proofs.replays.run_acts.Goals.{in-Some+in_ok-push, in_default}

pub loop-act-preserved : goal.loop-act-preserved
loop-act-preserved c =
    let acts = c.args.acts.now in
    let i = c.loop-act.act-index in
    let a = c.act-item.result in
    let inside = c.loop-act-test.true in
    let start : KeyMap = c.args.pairs.now in
    let trail = c.loop-act.trail.items in
    let next = c.push-in-loop-act.new.self.items in
    let copy : KeyMap = c.in_ok-copy.field-0 in
    let number = c.number.result in
    let after : copy ≡ act_after (doing a) start (trail_over [] trail) =
    c.in_ok-copy.ensures ∙ c.in_ok-answer.ensures.after ∙ ap (λ m. act_after (doing a) m (trail_over [] c.deref.result.now)) c.in_ok-start.ensures ∙ ap (λ t. act_after (doing a) start (trail_over [] t)) c.deref.ensures.value in
    let pushed : next ≡ trail ++ (number, copy) ∷ [] = c.in_ok-push-2.ensures.items in
    let given : List Answer = answers_by c.in_ok-answer.field-0 in
    let gives : given ≡ act_answers (doing a) c.loop-act.pairs = c.in_ok-answer.ensures.answer in
    let made : c.match-branch-3.answers.items ≡ c.loop-act.answers.items ++ given = elim c.match-branch-3.branch [
      | in-Some+in_ok-push w ↦ ap (λ v. v.items) w.answers-is ∙ w.in_ok-push.ensures.items ∙ joined_one c.loop-act.answers.items c.in_ok-answer.field-0 w.in-Some.answer w.in-Some.is
      | in_default w ↦ ap (λ v. v.items) w.answers-is ∙ joined_none c.loop-act.answers.items c.in_ok-answer.field-0 w.in_default.is
    ] in
    record {
      now = sym c.in_ok-copy.ensures ∙ now_step acts i a inside c.act-item.is start c.loop-act.pairs copy trail number next pushed;
      told =
          told_with acts i a inside c.act-item.is start c.loop-act.pairs copy trail number next c.loop-act.invariant.now c.number.ensures after pushed given c.loop-act.answers.items c.match-branch-3.answers.items
          (acts_answers (acts_of acts) start []) gives made c.loop-act.invariant.told;
      rest = rest_with acts i a inside c.act-item.is start c.loop-act.pairs copy trail number next c.number.ensures after pushed (acts_after (acts_of acts) start []) c.loop-act.invariant.rest;
    }

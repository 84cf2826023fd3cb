use Rattle.std.proofs.Common.{◌≡◌, cond, nat_le, [], drop, ◌+◌, sym, ap, ◌∙◌}
use Rattle.std.proofs.lemmas.Bool.{cond-true, cond-false, le-leb, lt-leb}
use Rattle.clv_base.specs.Maps.{map_up_to as up_to}
use Rattle.history_replay.specs.Acting.{trail_over}
use Rattle.history_replay.proofs.Acting.{up_step}
use Rattle.history_replay.proofs.replays.map_up_to.Goals as goal
use Rattle.history_replay.proofs.replays.map_up_to.Goals.{then-mark-upto, else-mark-upto}

pub loop-mark-preserved : goal.loop-mark-preserved
loop-mark-preserved c =
    let mark = c.mark-item.result in
    let found : c.if-mark-upto.found.now ≡ cond (nat_le mark.0 c.args.upto) mark.1 c.loop-mark.found.now = elim c.if-mark-upto.branch [
      | then-mark-upto w ↦ ap (λ f. f.now) w.found-is ∙ sym (cond-true (nat_le mark.0 c.args.upto) mark.1 c.loop-mark.found.now (le-leb mark.0 c.args.upto w.if-mark-upto.true))
      | else-mark-upto w ↦ ap (λ f. f.now) w.found-is ∙ sym (cond-false (nat_le mark.0 c.args.upto) mark.1 c.loop-mark.found.now (lt-leb mark.0 c.args.upto w.if-mark-upto.false))
    ] in
    ap (λ f. up_to c.args.upto f (trail_over [] (drop (c.loop-mark.mark-index + 1) c.args.trail.now))) found
    ∙ sym (up_step c.args.upto c.loop-mark.found.now c.args.trail.now c.loop-mark.mark-index mark c.loop-mark-test.true c.mark-item.is)
    ∙ c.loop-mark.invariant

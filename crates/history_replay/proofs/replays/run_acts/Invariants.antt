use Rattle.std.proofs.Common.{◌≡◌, ◌++◌, [], drop}
use Rattle.clv_base.specs.Maps.{acts_after, acts_answers, map_now}
use Rattle.history_replay.specs.Acting.{acts_of, trail_over}
use Rattle.history_replay.proofs.replays.run_acts.Given as goal

-- the map is the trail's last one; the answers so far and those to what is left are those to all
abbrev pub invariant-loop-act : goal.invariant-loop-act
invariant-loop-act l =
    record {
      now : l.pairs ≡ map_now l.fn.pairs (trail_over [] l.trail.items);
      told : l.answers.items ++ acts_answers (acts_of (drop l.act-index l.acts)) l.fn.pairs (trail_over [] l.trail.items) ≡ acts_answers (acts_of l.acts) l.fn.pairs [];
      rest : acts_after (acts_of (drop l.act-index l.acts)) l.fn.pairs (trail_over [] l.trail.items) ≡ acts_after (acts_of l.acts) l.fn.pairs [];
    }

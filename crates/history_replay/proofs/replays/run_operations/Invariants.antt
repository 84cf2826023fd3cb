use Rattle.std.proofs.Common.{◌≡◌, ◌++◌, [], false, drop}
use Rattle.clv_base.specs.Maps.{acts_after, acts_answers}
use Rattle.history_replay.specs.Acting.{acts_of, some_back}
use Rattle.history_replay.proofs.replays.run_operations.Given as goal

-- the answers so far and those to what is left are those to all
abbrev pub invariant-loop-act : goal.invariant-loop-act
invariant-loop-act l =
    record {
      onward : some_back (drop l.act-index l.acts) ≡ false;
      told : l.answers.items ++ acts_answers (acts_of (drop l.act-index l.acts)) l.pairs [] ≡ acts_answers (acts_of l.acts) l.fn.pairs [];
      rest : acts_after (acts_of (drop l.act-index l.acts)) l.pairs [] ≡ acts_after (acts_of l.acts) l.fn.pairs [];
    }

use Rattle.std.proofs.Common.{◌≡◌, ◌++◌, drop, map}
use Rattle.clv_base.specs.Maps.{replay_answers, replay_map}
use Rattle.history_replay.specs.Acting.{acts_of}
use Rattle.history_replay.proofs.replays.run_transactions.Given as goal

-- the answers so far and those of what is left are those of all
abbrev pub invariant-loop-transaction : goal.invariant-loop-transaction
invariant-loop-transaction l =
    record {
      told :
          map (λ a. a.items) l.answers.items ++ replay_answers l.pairs (map (λ t. acts_of t.items) (drop l.transaction-index l.transactions))
          ≡ replay_answers l.fn.pairs (map (λ t. acts_of t.items) l.transactions);
      rest : replay_map l.pairs (map (λ t. acts_of t.items) (drop l.transaction-index l.transactions)) ≡ replay_map l.fn.pairs (map (λ t. acts_of t.items) l.transactions);
    }

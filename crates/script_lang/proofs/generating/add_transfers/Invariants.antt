use Rattle.std.proofs.Common.{◌≡◌, ◌++◌, ◌-◌}
use Rattle.script_lang.specs.Loads.{transfers}
use Rattle.script_lang.proofs.generating.add_transfers.Given as goal

abbrev pub invariant-loop-turn : goal.invariant-loop-turn
invariant-loop-turn l =
    l.transactions.items ++ transfers l.accounts l.numbers.state (l.count - l._turn) ≡ l.initial.transactions.items ++ transfers l.accounts l.initial.numbers.state l.count

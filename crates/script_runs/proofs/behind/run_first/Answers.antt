use Rattle.std.proofs.Common.{◌∙◌, ◌++◌, sym, ap, take, drop}
use Rattle.std.proofs.lemmas.List.{take-append-drop}
use Rattle.script_runs.proofs.Alone.{takes_one}
use Rattle.script_runs.proofs.behind.run_first.Goals as goal

pub returns-clause-begun : goal.returns-clause-begun
returns-clause-begun g c = let xs = c.args.seat.now.transactions.now in let n = c.min-first.result in let front = c.split_at.ensures.front in
    record {
      front = c.split_at.result.0.now;
      whole_is = sym (take-append-drop n xs) ∙ ap (λ a. a ++ drop n xs) (sym front) ∙ ap (λ b. c.split_at.result.0.now ++ b) (sym c.split_at.ensures.back);
      front_is = front ∙ ap (λ k. take k xs) c.min-first.ensures ∙ takes_one xs;
      follows = c.run_session-seat.ensures.follows;
    }

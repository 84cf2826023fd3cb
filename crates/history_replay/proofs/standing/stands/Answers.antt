use Rattle.std.proofs.Common.{[], map, ◌∙◌}
use Rattle.clv_base.specs.Logs.{committed_somewhere}
use Rattle.history_replay.specs.Transactions.{has_member}
use Rattle.history_replay.proofs.standing.stands.Goals as goal
use Rattle.law_base.proofs.Logs.{stands_alike as same_test}

pub returns : goal.returns
returns c =
    let logs = map (λ l. l.items) c.args.logs.now in
    let folded = rw c.new-pairs.ensures at c.in_ok-fold_all.ensures in
    folded ∙ same_test (has_member c.in_ok-set.set) (committed_somewhere logs) c.in_ok-set.ensures logs []

use Rattle.std.proofs.Common.{rules, ◌≡◌, true, false, ◌||◌, is_some, sym, ap, ◌∙◌}
use Rattle.clv_base.specs.Orders.{tx_in}
use Rattle.log_analysis.specs.Facts.{known}
use Rattle.shard_recovery.proofs.Folded.{wins_known}
use Rattle.shard_recovery.proofs.writes.wins.Goals as goal

pub returns-then-is_some : goal.returns-then-is_some
returns-then-is_some c = λ log knows.
    let there : is_some (known c.args.facts.now c.args.tx).commit ≡ true = search rules in
    c.if-is_some.true ∙ ap (λ b. b || tx_in c.args.tx c.args.doubtful.now) (sym there) ∙ wins_known c.args.facts.now log c.args.doubtful.now c.args.tx knows

pub returns-else-is_some : goal.returns-else-is_some
returns-else-is_some c = λ log knows.
    let none : is_some (known c.args.facts.now c.args.tx).commit ≡ false = search rules in
    c.contains.ensures ∙ ap (λ b. b || tx_in c.args.tx c.args.doubtful.now) (sym none) ∙ wins_known c.args.facts.now log c.args.doubtful.now c.args.tx knows

use Rattle.std.proofs.Common.{rules, of_calls, not, ◌∷◌, []}
use Rattle.std.proofs.lemmas.Fn.{filter_same}
use Rattle.clv_base.specs.Orders.{tx_in}
use Rattle.lock_table.proofs.holding.release.Goals as goal

pub returns : goal.returns
returns c = filter_same _ (λ r. not (tx_in (r.1).tx (c.args.tx ∷ []))) _ (λ x b q h. search (rules, of_calls)) _ _ c.retain.ensures.filtered

use Rattle.std.proofs.Common.{rules, of_calls, not}
use Rattle.std.proofs.lemmas.Fn.{filter_same}
use Rattle.lock_table.specs.Rows.{is_lock_of}
use Rattle.lock_table.proofs.holding.give_up.Goals as goal

pub returns : goal.returns
returns c = filter_same _ (λ r. not (is_lock_of c.args.tx c.args.anchor r)) _ (λ x b q h. search (rules, of_calls)) _ _ c.retain.ensures.filtered

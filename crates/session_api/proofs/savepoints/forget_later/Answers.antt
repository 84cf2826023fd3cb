use Rattle.std.proofs.Common.{rules, of_calls, nat_le}
use Rattle.std.proofs.lemmas.Fn.{filter_same}
use Rattle.session_api.proofs.savepoints.forget_later.Goals as goal

pub returns : goal.returns
returns c = filter_same _ (λ u. nat_le u c.args.upto) _ (λ x b q h. search (rules, of_calls)) _ _ c.retain.ensures.filtered

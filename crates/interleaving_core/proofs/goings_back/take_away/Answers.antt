use Rattle.std.proofs.Common.{rules, of_calls, not, ◌&&◌, ◌==◌, nat_lt}
use Rattle.std.proofs.lemmas.Fn.{filter_same}
use Rattle.interleaving_core.proofs.goings_back.take_away.Goals as goal

pub returns : goal.returns
returns c = filter_same _ (λ w. not ((w.0 == c.args.shard) && nat_lt c.args.upto w.1)) _ (λ x b q h. search (rules, of_calls)) _ _ c.retain.ensures.filtered

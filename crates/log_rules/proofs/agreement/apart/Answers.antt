use Rattle.std.proofs.Common.{map, sym, subst}
use Rattle.log_analysis.specs.Facts.{KnowAll}
use Rattle.log_rules.proofs.agreement.apart.Goals as goal

pub apart_by-requires : goal.apart_by-requires
apart_by-requires c = subst (λ ms. KnowAll ms (map (λ l. l.items) c.args.logs.now)) (sym c.deref.ensures.value) c.in_ok-facts.ensures

use Rattle.std.proofs.Common.{map, sym, subst}
use Rattle.clv_base.specs.Folding.{IsRising}
use Rattle.clv_audit.proofs.Judging.{stands_rises}
use Rattle.clv_audit.proofs.auditing.verdict_on.Goals as goal

pub judge-requires-clause-rises : goal.judge-requires-clause-rises
judge-requires-clause-rises c = subst IsRising (sym c.in_ok-left.ensures) (stands_rises (map (λ l. l.items) c.args.logs.now))

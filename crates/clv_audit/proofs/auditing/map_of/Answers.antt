use Rattle.clv_audit.proofs.Judging.{set_more}
use Rattle.clv_audit.proofs.auditing.map_of.Goals as goal

pub loop-pair-preserved : goal.loop-pair-preserved
loop-pair-preserved c =
    set_more c.args.pairs.now c.loop-pair.found c.set.new.self c.loop-pair.pair-index c.pair-item.result c.copy.result c.requires c.loop-pair-test.true c.pair-item.is c.loop-pair.invariant c.copy.ensures c.in_ok-set.ensures.set

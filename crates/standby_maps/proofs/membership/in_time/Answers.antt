use Rattle.std.proofs.Common.{◌∙◌}
use Rattle.clv_base.specs.Orders.{tx_in}
use Rattle.clv_base.proofs.Arrays.{get_some}
use Rattle.standby_maps.proofs.InTime.{there_in_time}
use Rattle.standby_maps.proofs.membership.in_time.Goals as goal

pub returns : goal.returns
returns c = λ set made. let e = c.in-Some.ensures.lookup in let f = c.in-Some-get.ensures.lookup in
    c.comes_by.ensures
    ∙ there_in_time (λ t. tx_in t set) c.args.logs.now c.args.cuts.now c.args.shard c.in-Some-get.cut.now c.in-Some.log.now c.args.tx made
    (get_some c.args.logs.now c.args.shard c.in-Some.log.now e.3.0 e.1) (get_some c.args.cuts.now c.args.shard c.in-Some-get.cut.now f.3.0 f.1)

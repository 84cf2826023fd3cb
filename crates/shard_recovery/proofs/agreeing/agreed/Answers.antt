use Rattle.std.proofs.Common.{arith}
use Rattle.clv_base.specs.LogRules.{same_record as same}
use Rattle.shard_recovery.proofs.Prefixes.{ended}
use Rattle.shard_recovery.proofs.agreeing.agreed.Goals as goal

pub returns-clause-agreed : goal.returns-clause-agreed
returns-clause-agreed c =
    let none = ended same c.args.a.now c.args.b.now c.loop-i.i (omega (arith, c.min-both.ensures, c.loop-i-test.false, c.loop-i.auto.i-end)) in
    omega (arith, c.loop-i.invariant, none, c.loop-i-test.false, c.loop-i.auto.i-end)

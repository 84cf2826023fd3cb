use Rattle.std.proofs.Common.{sym, arith}
use Rattle.shard_recovery.proofs.Prefixes.{no_epoch_left, other_record, that_restart}
use Rattle.shard_recovery.proofs.agreeing.restarts_agreed.Goals.{then-epoch-last-via-then-epoch-last, then-epoch-last-via-else-epoch-last+then-not-is_restart}
use Rattle.shard_recovery.proofs.agreeing.restarts_agreed.Goals as goal

pub returns-then-epoch-last-clause-agreed : goal.returns-then-epoch-last-clause-agreed
returns-then-epoch-last-clause-agreed c =
    elim c.then-epoch-last.branch [
      | then-epoch-last-via-then-epoch-last w ↦
          let none = no_epoch_left c.args.found.now c.args.run c.args.last c.loop-i.i c.loop-i.epoch (omega (arith, w.if-epoch-last.true)) in
          omega (arith, c.loop-i.invariant.1, none)
      | then-epoch-last-via-else-epoch-last+then-not-is_restart w ↦
          let none = other_record c.args.found.now c.args.run c.args.last c.loop-i.i c.loop-i.epoch w.index-found-i.result c.loop-i-test.true w.index-found-i.is (omega (arith, w.if-epoch-last.false)) (sym w.if-not-is_restart.ensures) in
          omega (arith, c.loop-i.invariant.1, none)
    ]

pub loop-i-preserved : goal.loop-i-preserved
loop-i-preserved c =
    let more = that_restart c.args.found.now c.args.run c.args.last c.loop-i.i c.loop-i.epoch c.index-found-i.result c.loop-i-test.true c.index-found-i.is (omega (arith, c.if-epoch-last.false)) (sym c.if-not-is_restart.ensures) in
    (omega (arith, c.loop-i.invariant.0), omega (arith, c.loop-i.invariant.1, more))

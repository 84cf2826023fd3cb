use Rattle.std.proofs.lemmas.Result.{err_from_is_err_and}
use Rattle.log_rules.proofs.Walking.{refused_at, goes_on, in_order_to_end, known_to_end}
use Rattle.log_rules.proofs.order.in_order.Goals as goal

pub returns-in_err-read-clause-refused : goal.returns-in_err-read-clause-refused
returns-in_err-read-clause-refused c =
    let p = err_from_is_err_and c.from_residual-in_err-read.result c.from_residual-in_err-read.ensures.1 in
    rw (p.1, p.2) (refused_at c.args.shard c.args.records.now c.loop-lsn.index c.loop-lsn.lsn c.loop-lsn.invariant c.loop-lsn-test.true c.in_err-read.field-0.0 c.in_err-read.ensures.err)

pub loop-lsn-preserved : goal.loop-lsn-preserved
loop-lsn-preserved c = let took = c.in_ok-read.ensures.ok in
    goes_on c.args.shard c.args.records.now c.loop-lsn.index c.loop-lsn.lsn c.loop-lsn.invariant took.0 c.loop-lsn-test.true took.1 c.read.new.index took.2 took.3

pub returns-clause-in_order : goal.returns-clause-in_order
returns-clause-in_order c = in_order_to_end c.args.shard c.args.records.now c.loop-lsn.index c.loop-lsn.lsn c.loop-lsn.invariant c.loop-lsn-test.false

pub returns-clause-knows : goal.returns-clause-knows
returns-clause-knows c = known_to_end c.args.shard c.args.records.now c.loop-lsn.index c.loop-lsn.lsn c.loop-lsn.invariant c.loop-lsn-test.false c.into_facts.result c.into_facts.ensures

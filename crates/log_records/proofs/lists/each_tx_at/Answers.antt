use Rattle.std.proofs.lemmas.Result.{err_from_is_err_and}
use Rattle.log_records.specs.Reading.{each_at, transaction_at}
use Rattle.log_records.proofs.Loops.{goes_on, ends, is_done}
use Rattle.log_records.proofs.lists.each_tx_at.Goals as goal

pub returns-in_err-tx : goal.returns-in_err-tx
returns-in_err-tx c =
    let p = err_from_is_err_and c.from_residual.result c.from_residual.ensures.1 in
    rw (p.1, p.2) (ends transaction_at c.in_err-tx.field-0.0 c.loop.txs.items c.args.count c.loop.counter c.loop.rest.now (each_at transaction_at c.args.count c.args.bytes.now) c.loop-test.true c.in_err-tx.ensures c.loop.invariant)

pub loop-preserved : goal.loop-preserved
loop-preserved c =
    rw c.in_ok-push.ensures.items (goes_on transaction_at c.loop.txs.items c.args.count c.loop.counter c.loop.rest.now c.in_ok-tx.tx c.in_ok-tx.after.now (each_at transaction_at c.args.count c.args.bytes.now) c.loop-test.true c.in_ok-tx.ensures c.loop.invariant)

pub returns : goal.returns
returns c = rw c.new.ensures (is_done transaction_at c.loop.txs.items c.args.count c.loop.counter c.loop.rest.now (each_at transaction_at c.args.count c.args.bytes.now) c.loop-test.false c.loop.invariant)

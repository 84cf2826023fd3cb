use Rattle.std.proofs.Common.{◌≡◌, ◌+◌, ap, ◌∙◌, add-one, arith, rules}
use Rattle.std.proofs.lemmas.List.{take_all}
use Rattle.txn_core.proofs.Laws.{total_of, total_next, total_told}
use Rattle.shard_restoring.proofs.restoring.owed_to.Goals as goal

pub loop-tx-preserved : goal.loop-tx-preserved
loop-tx-preserved c =
    let log = c.args.buffer.now.records in let txs = c.args.txs.now in let i = c.loop-tx.tx-index in
    let next = total_next log txs i (record { run = 0; session = 0; serial = 0 }) c.loop-tx-test.true in
    let sum : c.in_ok-count.count ≡ c.loop-tx.count + c.in_ok-own.own = search rules in
    rw add-one (omega (arith, c.loop-tx.invariant, next, sum, c.in_ok-own.ensures))

pub returns : goal.returns
returns c =
    let log = c.args.buffer.now.records in let txs = c.args.txs.now in
    c.loop-tx.invariant ∙ ap (total_of log) (take_all c.loop-tx.tx-index txs c.loop-tx-test.false) ∙ total_told log txs c.requires

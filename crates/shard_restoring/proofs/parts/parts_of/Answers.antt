-- One more of the rising transactions goes behind those that are in.
use Rattle.std.proofs.Common.{◌+◌, ◌++◌, ap, drop, ◌∙◌}
use Rattle.std.specs.BTreeMap.{insert_entry}
use Rattle.clv_base.specs.declared.state.Held.{Held}
use Rattle.clv_base.specs.Orders.{Table, tx_cmp}
use Rattle.clv_base.specs.Restarts.{restored_parts}
use Rattle.shard_restoring.proofs.Doubted.{step_parts}
use Rattle.shard_restoring.proofs.parts.parts_of.Goals as goal

pub loop-tx-preserved : goal.loop-tx-preserved
loop-tx-preserved c =
    let ts = c.args.txs.now in let i = c.loop-tx.tx-index in let now = c.loop-tx.parts.entries in
    ap (λ (l : Table Held). l ++ restored_parts (drop (i + 1) ts)) (c.in_ok-enter.ensures.ok ∙ ap (insert_entry tx_cmp now _) c.restored_part.ensures)
    ∙ step_parts i ts (record { run = 0; session = 0; serial = 0 }) now c.requires.rising c.loop-tx-test.true c.loop-tx.invariant

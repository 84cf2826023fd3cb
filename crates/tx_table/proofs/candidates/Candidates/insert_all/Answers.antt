-- One after another is put in, and there is room for each.
use Rattle.std.proofs.Common.{ap, ◌∙◌}
use Rattle.tx_table.specs.Held.{Candidates}
use Rattle.tx_table.proofs.Counting.{room_next, step_more}
use Rattle.tx_table.proofs.candidates.Candidates.insert_all.Goals as goal

pub insert-requires : goal.insert-requires
insert-requires c = room_next c.loop-tx.tx-index c.args.txs.now _ c.args.self.now c.loop-tx.self c.loop-tx.invariant.room c.loop-tx.invariant.same c.loop-tx.invariant.limit c.loop-tx-test.true

pub loop-tx-preserved : goal.loop-tx-preserved
loop-tx-preserved c = record {
  same = λ x. step_more c.loop-tx.tx-index c.args.txs.now _ x c.loop-tx.self.txs c.insert.new.self.txs (ap (λ (v : Candidates). v.txs) c.insert.ensures) c.loop-tx-test.true ∙ c.loop-tx.invariant.same x;
  limit = ap (λ (v : Candidates). v.limit) c.insert.ensures ∙ c.loop-tx.invariant.limit;
  room = c.loop-tx.invariant.room;
}

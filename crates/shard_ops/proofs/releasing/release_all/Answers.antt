-- Locks are given up transaction by transaction, and of the ghosts no more stay each time.
use Rattle.std.proofs.Common.{◌≡◌, [], ◌∷◌, ◌+◌, drop, get_or, sym, ap, subst, ◌∙◌, arith}
use Rattle.std.proofs.lemmas.List.{drop_all}
use Rattle.clv_base.specs.declared.names.TxId.{TxId}
use Rattle.clv_base.specs.Locks.{release}
use Rattle.clv_base.specs.Needs.{Records, without_ghosts}
use Rattle.shard_ops.specs.Ghosts.{GhostsAreLocked}
use Rattle.shard_ops.proofs.Purged.{purged_by_release, purged_are_locked}
use Rattle.shard_ops.proofs.Giving.{release-none, release-step}
use Rattle.shard_ops.proofs.releasing.release_all.Goals as goal

pub release_one-requires : goal.release_one-requires
release_one-requires g c =
    let rows = g.L.Locks.rows c.loop-tx.locks in
    subst (λ (rs : Records). GhostsAreLocked rows rs) (sym c.loop-tx.invariant.records) (purged_are_locked rows (g.S.Store.records c.args.store.now))

pub loop-tx-preserved : goal.loop-tx-preserved
loop-tx-preserved g c =
    let txs = c.args.txs.now in let i = c.loop-tx.tx-index in let rows = g.L.Locks.rows c.loop-tx.locks in let start = g.S.Store.records c.args.store.now in
    let one = c.release_one.ensures in let nobody : TxId = record { run = 0; session = 0; serial = 0 } in
    record {
      left = ap (release (drop (i + 1) txs)) one.rows ∙ release-step i txs _ rows c.loop-tx-test.true ∙ c.loop-tx.invariant.left;
      records =
          one.records ∙ ap (without_ghosts (g.L.Locks.rows c.release_one.new.locks)) c.loop-tx.invariant.records ∙ purged_by_release (get_or txs i nobody ∷ []) rows _ start one.rows;
      room = omega arith;
    }

pub returns-clause-rows : goal.returns-clause-rows
returns-clause-rows g c =
    let txs = c.args.txs.now in let done : drop c.loop-tx.tx-index txs ≡ [] = drop_all c.loop-tx.tx-index txs c.loop-tx-test.false in let rows = g.L.Locks.rows c.loop-tx.locks in
    sym (release-none rows) ∙ ap (λ l. release l rows) (sym done) ∙ c.loop-tx.invariant.left

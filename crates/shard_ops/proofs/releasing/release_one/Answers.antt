-- Each turn gives up one lock, and the ghost that may go is the one on its anchor.
use Rattle.std.proofs.Common.{◌<◌, [], ◌∷◌, length, sym, ap, subst, ◌∙◌, arith}
use Rattle.clv_base.specs.Locks.{Locks, release}
use Rattle.clv_base.specs.Needs.{Records, without_ghosts}
use Rattle.lock_table.specs.Rows.{without_lock}
use Rattle.shard_ops.specs.Ghosts.{GhostsAreLocked, without_ghost_on}
use Rattle.shard_ops.proofs.Purged.{purged_by_one, purged_are_locked, purged_on_anchor}
use Rattle.shard_ops.proofs.Giving.{released_after_one, fewer_after_one}
use Rattle.shard_ops.proofs.releasing.release_one.Goals as goal

pub loop-anchor-smaller : goal.loop-anchor-smaller
loop-anchor-smaller g c =
    let rows = g.L.Locks.rows c.loop-anchor.locks in let gone = c.in-Some.ensures in
    subst (λ (l : Locks). length l < length rows) (sym gone.1) (fewer_after_one c.args.tx c.in-Some.anchor rows gone.0)

pub loop-anchor-preserved : goal.loop-anchor-preserved
loop-anchor-preserved g c =
    let tx = c.args.tx in let a = c.in-Some.anchor in let rows = g.L.Locks.rows c.loop-anchor.locks in let rs = g.S.Store.records c.loop-anchor.store in let start = g.S.Store.records c.args.store.now in
    let gone = c.in-Some.ensures in let so_far = c.loop-anchor.invariant.records in
    let locked = subst (λ (x : Records). GhostsAreLocked rows x) (sym so_far) (purged_are_locked rows start) in
    record {
      left = ap (release (tx ∷ [])) gone.1 ∙ released_after_one tx a rows ∙ c.loop-anchor.invariant.left;
      records =
          c.purge_on.ensures.records ∙ ap (λ (l : Locks). without_ghost_on a l rs) gone.1 ∙ purged_on_anchor tx a rows rs locked
          ∙ ap (without_ghosts (without_lock tx a rows)) so_far ∙ purged_by_one tx a rows start ∙ ap (λ (l : Locks). without_ghosts l start) (sym gone.1);
      room = omega arith;
    }

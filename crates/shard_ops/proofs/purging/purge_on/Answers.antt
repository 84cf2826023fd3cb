-- Each key has one record, so what is found at the key is the one that goes or stays.
use Rattle.std.proofs.Common.{◌≡◌, true, sym, ap, ◌∙◌}
use Rattle.clv_base.specs.declared.modes.Anchor.{Anchor}
use Rattle.clv_base.specs.declared.modes.Anchor.TheVariants.{At}
use Rattle.clv_base.specs.Locks.{is_free}
use Rattle.clv_base.specs.Needs.{found_at}
use Rattle.shard_ops.specs.Ghosts.{is_ghost, without_ghost_on}
use Rattle.ordered_store.proofs.Laws.{rises_from}
use Rattle.shard_ops.proofs.Purged.{none_low, held_stays, live_stays, ghost_goes}
use Rattle.shard_ops.proofs.purging.purge_on.Goals as goal
use Rattle.shard_ops.proofs.purging.purge_on.Goals.{else-is_ghost-via-then-is_ghost+else-free, else-is_ghost-via-else-is_ghost}

pub returns-in_default-clause-records : goal.returns-in_default-clause-records
returns-in_default-clause-records g c =
    let rows = g.L.Locks.rows c.args.locks.now in let rs = g.S.Store.records c.args.store.now in
    sym (none_low rows rs) ∙ ap (λ (a : Anchor). without_ghost_on a rows rs) (sym c.in_default.is)

pub returns-then-free-clause-records : goal.returns-then-free-clause-records
returns-then-free-clause-records g c =
    let rows = g.L.Locks.rows c.args.locks.now in let rs = g.S.Store.records c.args.store.now in let key = c.in-At.key in
    let ghost : is_ghost (found_at key rs) ≡ true = sym (ap is_ghost c.get.ensures) ∙ (sym c.is_ghost.ensures ∙ c.if-is_ghost.true) in
    let free : is_free (At key) rows ≡ true = sym c.free.ensures ∙ c.if-free.true in
    c.purge.ensures.records ∙ ghost_goes key rows rs (rises_from rs (g.met.S.Store.rising c.args.store.now)) ghost free ∙ ap (λ (a : Anchor). without_ghost_on a rows rs) (sym c.in-At.is)

pub returns-else-is_ghost-clause-records : goal.returns-else-is_ghost-clause-records
returns-else-is_ghost-clause-records g c =
    let rows = g.L.Locks.rows c.args.locks.now in let rs = g.S.Store.records c.args.store.now in let key = c.in-At.key in
    let stay : without_ghost_on (At key) rows rs ≡ rs =
    elim c.else-is_ghost.branch [
      | else-is_ghost-via-then-is_ghost+else-free w ↦ held_stays key rows rs (sym w.free.ensures ∙ w.if-free.false)
      | else-is_ghost-via-else-is_ghost w ↦ live_stays key rows rs (rises_from rs (g.met.S.Store.rising c.args.store.now)) (sym (ap is_ghost c.get.ensures) ∙ (sym c.is_ghost.ensures ∙ w.if-is_ghost.false))
    ] in
    sym stay ∙ ap (λ (a : Anchor). without_ghost_on a rows rs) (sym c.in-At.is)

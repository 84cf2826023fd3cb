use Rattle.std.proofs.Common.{◌==◌, not, None, sym, ap, ◌∙◌}
use Rattle.std.specs.List.{filter}
use Rattle.clv_base.specs.Needs.{found_at, found_by}
use Rattle.shard_recovery.proofs.Folded.{none_gone, found_set, set_gone}
use Rattle.shard_recovery.proofs.winners.remove.Goals as goal

pub purge-requires : goal.purge-requires
purge-requires g c = ap (found_at c.args.key) c.hide.ensures.records ∙ ap found_by (found_set c.args.key None (g.S.Store.records c.args.store.now))

pub returns-in-Absent-clause-records : goal.returns-in-Absent-clause-records
returns-in-Absent-clause-records g c = none_gone c.args.key (g.S.Store.records c.args.store.now) (sym c.in-Absent.ensures)

pub returns-in-Live-clause-records : goal.returns-in-Live-clause-records
returns-in-Live-clause-records g c =
    c.purge.ensures.records ∙ ap (filter (λ r. not (r.0 == c.args.key))) c.hide.ensures.records ∙ set_gone c.args.key None (g.S.Store.records c.args.store.now)

use Rattle.std.proofs.Common.{Some, None, ap, ◌∙◌}
use Rattle.clv_base.specs.declared.values.Value.TheVariants.{Num}
use Rattle.clv_base.specs.Needs.{found_at, is_there, record_set}
use Rattle.cascade_undo.proofs.Laws.{set_is_there}
use Rattle.shard_recovery.proofs.Folded.{set_twice}
use Rattle.shard_recovery.proofs.winners.hide.Goals as goal

pub hide-requires : goal.hide-requires
hide-requires g c = ap (λ rs. is_there (found_at c.args.key rs)) c.set.ensures.records ∙ set_is_there c.args.key (Some (Num 0)) (g.S.Store.records c.args.store.now)

pub returns-clause-records : goal.returns-clause-records
returns-clause-records g c =
    c.hide.ensures.records ∙ ap (record_set c.args.key None) c.set.ensures.records ∙ set_twice c.args.key None (Some (Num 0)) (g.S.Store.records c.args.store.now)

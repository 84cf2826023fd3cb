use Rattle.std.proofs.Common.{◌==◌, not, Some, sym, ap, ◌∙◌}
use Rattle.std.specs.List.{filter}
use Rattle.clv_base.specs.Maps.{map_set}
use Rattle.clv_base.specs.Needs.{record_set}
use Rattle.clv_base.specs.Restarts.{records_of}
use Rattle.shard_recovery.proofs.Folded.{records_set, records_gone}
use Rattle.shard_recovery.proofs.winners.set.Goals as goal

pub returns-in-Some-clause-records : goal.returns-in-Some-clause-records
returns-in-Some-clause-records g c = λ m e.
    c.set.ensures.records ∙ ap (record_set c.args.key (Some c.in-Some.value)) e ∙ records_set c.args.key c.in-Some.value m ∙ ap (λ v. records_of (map_set c.args.key v m)) (sym c.in-Some.is)

pub returns-in-None-clause-records : goal.returns-in-None-clause-records
returns-in-None-clause-records g c = λ m e.
    c.remove.ensures.records ∙ ap (filter (λ r. not (r.0 == c.args.key))) e ∙ records_gone c.args.key m ∙ ap (λ v. records_of (map_set c.args.key v m)) (sym c.in-None.is)

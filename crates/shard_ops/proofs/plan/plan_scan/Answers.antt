-- What a scan comes to, by the records of its range.
use Rattle.std.proofs.Common.{refl, ap, ◌∙◌, ◌++◌}
use Rattle.std.specs.List.{filter_map}
use Rattle.clv_base.specs.declared.ops.Answer.TheVariants.{Pairs}
use Rattle.clv_base.specs.Needs.{records_between, gap_below, found_at}
use Rattle.shard_ops.specs.Planned.{pair_of}
use Rattle.shard_ops.proofs.Ranges.{row_needs, row_needs-of_records, pairs-of_records}
use Rattle.shard_ops.proofs.plan.plan_scan.Goals as goal

pub returns : goal.returns
returns g c = let rs = g.S.Store.records c.args.store.now in let between = records_between c.args.low c.args.high rs in
    record {
      needs =
          c.in_ok-needs.ensures
          ∙ ap (λ l. gap_below c.args.low rs (found_at c.args.low rs) ++ row_needs l) (c.deref.ensures.value ∙ c.in_ok-rows.ensures)
          ∙ ap (λ l. gap_below c.args.low rs (found_at c.args.low rs) ++ l) (row_needs-of_records between);
      answer = ap Pairs (c.new.ensures ∙ c.in_ok-pairs.ensures ∙ ap (filter_map pair_of) (c.deref-2.ensures.value ∙ c.in_ok-rows.ensures) ∙ pairs-of_records between);
      insert = refl;
      write = refl;
    }

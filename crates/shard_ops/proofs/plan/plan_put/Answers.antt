-- What a Put comes to, by what stands at its key.
use Rattle.std.proofs.Common.{ℕ, ap, ◌∙◌, Option, Some}
use Rattle.clv_base.specs.declared.changes.Change.TheVariants.{Sets}
use Rattle.clv_base.specs.declared.values.Value.{Value as ValueType}
use Rattle.clv_base.specs.declared.ops.Op.TheVariants.{Put}
use Rattle.clv_base.specs.declared.ops.Answer.TheVariants.{Value}
use Rattle.clv_base.specs.Needs.{needs_by, live_of, inserts}
use Rattle.shard_ops.specs.declared.plan.Write.{Write}
use Rattle.shard_ops.specs.Planned.{insert_by}
use Rattle.shard_ops.proofs.plan.plan_put.Goals as goal

abbrev made : ℕ → Option ValueType → ValueType → ValueType → Option Write
made key before set after = Some (record { key = key; change = Sets before (Some set); after = Some after })

pub returns : goal.returns
returns g c = let rs = g.S.Store.records c.args.store.now in let put = Put c.args.key c.args.value.now in
    record {
      needs = c.put_need-need.ensures c.args.value.now ∙ ap (needs_by put rs) c.get-found.ensures;
      answer = ap Value (c.copy_of.ensures ∙ c.live-before.ensures ∙ ap live_of c.get-found.ensures);
      insert = c.put_insert-insert.ensures c.args.value.now ∙ ap (λ f. insert_by rs (inserts put f)) c.get-found.ensures;
      write =
          ap (λ v. made c.args.key c.live-before.result v c.copy-2.result) c.copy.ensures
          ∙ ap (made c.args.key c.live-before.result c.args.value.now) c.copy-2.ensures
          ∙ ap (λ b. made c.args.key b c.args.value.now c.args.value.now) (c.live-before.ensures ∙ ap live_of c.get-found.ensures);
    }

-- The new core is of the shard's number and run.
use Rattle.std.proofs.Common.{sym, ap, subst, ◌∙◌, []}
use Rattle.clv_base.specs.Restarts.{state_after}
use Rattle.machine_calls.specs.Restored.{IsRestored}
use Rattle.shard_core.specs.Core.{Core}
use Rattle.shard_core.proofs.shard.ShardCore.restart.Goals as goal

pub restored-requires : goal.restored-requires
restored-requires g c =
    let s = c.args.self.now.shard in let records = g.S.Store.records c.args.store in
    subst (λ n. IsRestored n c.run-run.result c.args.epoch records c.args.recovered) (sym c.number-shard.ensures)
    (subst (λ n. IsRestored s.shard n c.args.epoch records c.args.recovered) (sym c.run-run.ensures) c.requires)

pub returns-in-Ok-clause-shard : goal.returns-in-Ok-clause-shard
returns-in-Ok-clause-shard g c =
    let s = c.args.self.now.shard in let log = c.args.recovered.buffer.records in
    ap (λ (d : Core). d.shard) c.replace.ensures.after ∙ c.in-Ok.ensures.shard ∙ ap (λ n. state_after n c.run-run.result c.args.epoch log 0 []) c.number-shard.ensures ∙ ap (λ n. state_after s.shard n c.args.epoch log 0 []) c.run-run.ensures

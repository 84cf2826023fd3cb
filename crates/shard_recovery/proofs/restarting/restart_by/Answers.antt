use Rattle.std.proofs.Common.{◌≡◌, ℕ, sym, ap, ◌∙◌}
use Rattle.std.specs.Result.{IfOk}
use Rattle.std.specs.declared.result.Result.{Result}
use Rattle.std.specs.declared.result.Result.TheVariants.{Ok, Err}
use Rattle.clv_base.specs.Logs.{in_doubt}
use Rattle.clv_base.specs.Restarts.{log_after_restart}
use Rattle.shard_recovery.specs.Winning.{records_after}
use Rattle.shard_recovery.proofs.Lasting.{restart_leaves}
use Rattle.shard_recovery.proofs.restarting.restart_by.Goals as goal

always : {X E : Type 0} (P : Type 0) (r : Result X E) → P → IfOk r (λ _. P)
always P (Ok x) p = p
always P (Err e) p = tt

pub returns-clause-records : goal.returns-clause-records
returns-clause-records g c =
    let log = c.args.records.items in let filled = g.S.Store.records c.fill.new.store in
    always ((shard : ℕ) → c.args.doubtful.now ≡ in_doubt shard log → filled ≡ records_after shard (log_after_restart shard log c.args.run c.args.epoch)) c.rewrite.result
    (λ shard is.
    let found = c.deref.ensures.value ∙ c.in_ok-records.ensures in
    c.in_ok-fill.ensures.ok shard (is ∙ ap (in_doubt shard) (sym found))
    ∙ ap (records_after shard) found
    ∙ sym (restart_leaves shard log c.args.run c.args.epoch))

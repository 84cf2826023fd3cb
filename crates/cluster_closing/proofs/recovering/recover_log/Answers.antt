use Rattle.std.proofs.Common.{Err, ap}
use Rattle.cluster_closing.proofs.Refusing.{left_recovery}
use Rattle.cluster_closing.proofs.recovering.recover_log.Goals as goal

pub returns-in-Err-clause-left : goal.returns-in-Err-clause-left
returns-in-Err-clause-left g c = λ layout log. let e = c.in-Err.ensures in
    left_recovery (λ a. g.M.Gate.Gate.logs a layout) c.args.shard c.args.run c.args.epoch c.args.log.items c.args.gate c.recover.new.gate c.in-Err.error log (λ is. e.failed (ap (λ x. Err x) is) layout log) (λ is. e.memory (ap (λ x. Err x) is))

pub returns-in-Ok-recover-clause-gate : goal.returns-in-Ok-recover-clause-gate
returns-in-Ok-recover-clause-gate g c = λ layout log. let e = c.in-Ok-recover.ensures in record { is_open = e.open; own = e.shard; count = e.cause; log_is = e.gate layout log }

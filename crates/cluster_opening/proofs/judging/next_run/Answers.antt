use Rattle.std.proofs.Common.{◌≡◌, map, drop, arith}
use Rattle.std.proofs.lemmas.List.{at_drop_all}
use Rattle.clv_base.specs.Restarts.{run_after}
use Rattle.cluster_opening.proofs.OneDisk.{run_is}
use Rattle.cluster_opening.proofs.judging.next_run.Goals as goal
use Rattle.law_base.proofs.Logs.{least_run}

pub loop-log-init : goal.loop-log-init
loop-log-init c = record { small = omega arith; run = (let k = least_run (map (λ v. v.items) c.args.logs.now) in omega arith) }

pub returns : goal.returns
returns c =
    let e : run_after (map (λ v. v.items) (drop c.loop-log.log-index c.args.logs.now)) ≡ 1 = at_drop_all (λ xs. run_after (map (λ v. v.items) xs)) c.args.logs.now c.loop-log.log-index c.loop-log-test.false in
    let inv = c.loop-log.invariant.run in
    run_is c.checked_add.result c.loop-log.most (run_after (map (λ v. v.items) c.args.logs.now)) c.loop-log.invariant.small (omega arith) c.checked_add.ensures

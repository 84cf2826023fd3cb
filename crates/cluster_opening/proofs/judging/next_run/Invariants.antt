use Rattle.std.proofs.Common.{◌≡◌, ◌<◌, ◌^◌, suc, max, map, drop}
use Rattle.clv_base.specs.Restarts.{run_after}
use Rattle.cluster_opening.proofs.judging.next_run.Given as goal

abbrev pub invariant-loop-log : goal.invariant-loop-log
invariant-loop-log l = record {
  small : l.most < 2 ^ 32;
  run : max (suc l.most) (run_after (map (λ v. v.items) (drop l.log-index l.logs))) ≡ run_after (map (λ v. v.items) l.logs);
}

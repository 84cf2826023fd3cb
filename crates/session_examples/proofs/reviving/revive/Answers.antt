use Rattle.std.proofs.Common.{◌∙◌, sym, subst, Ok}
use Rattle.machine_calls.specs.Disks.{stories_of, faults_of}
use Rattle.cluster_closing.specs.EndHeld.{HoldsAt, IsDiskOf}
use Rattle.session_examples.proofs.Walking.{home_of}
use Rattle.session_examples.proofs.Fetching.{one_fetched, none_fetched, refused_again, restarted}
use Rattle.session_examples.proofs.reviving.revive.Goals as goal

pub returns-in-Err : goal.returns-in-Err
returns-in-Err g c = record {
  home = (let sh = c.args.shards.now in let w = c.args.walker.now in let e = c.fetch.ensures in
      none_fetched sh 0 0 w c.fetch.new.walker c.fetch.result c.in-Err.error c.in-Err.is (home_of sh 0 w c.requires.rest) (e.walker.0, e.walker.1) e.fetch);
}

pub loop-try-init : goal.loop-try-init
loop-try-init g c =
    let sh = c.args.shards.now in let w = c.args.walker.now in let v = c.fetch.new.walker in let e = c.fetch.ensures in let F = faults_of g.M.Disk.Disk.faults in let f = c.in-Ok.fetched in
    record {
      one = one_fetched sh 0 0 w v (Ok f) (home_of sh 0 w c.requires.rest) (e.walker.0, e.walker.1) c.in-Ok.ensures.fetch;
      shard = c.in-Ok.ensures.shard;
      held = subst (λ k. HoldsAt f.shard k (λ layout. IsDiskOf F f) v.passes.items) (sym e.walker.1.0) c.in-Ok.ensures.held;
    }

pub returns-in-Ok-restart : goal.returns-in-Ok-restart
returns-in-Ok-restart g c = record {
  home = (let sh = c.args.shards.now in let u = c.loop-try.walker in let v = c.restart.new.walker in let inv = c.loop-try.invariant in
      restarted sh (stories_of g.M.Disk.Disk.story) c.loop-try.fetched 0 0 u v inv.one inv.shard c.restart.ensures.walker c.in-Ok-restart.epoch c.in-Ok-restart.ensures.restart);
}

pub loop-try-preserved : goal.loop-try-preserved
loop-try-preserved g c =
    let sh = c.args.shards.now in let u = c.loop-try.walker in let v = c.restart.new.walker in let inv = c.loop-try.invariant in let e = c.in-Err-restart.ensures in let F = faults_of g.M.Disk.Disk.faults in let f = c.in-Err-restart.again in
    record {
      one = refused_again sh (stories_of g.M.Disk.Disk.story) c.loop-try.fetched 0 0 u v inv.one inv.shard c.restart.ensures.walker (c.in-Err-restart._error, f) e.restart;
      shard = e.back.0 ∙ inv.shard;
      held = subst (λ k. HoldsAt f.shard k (λ layout. IsDiskOf F f) v.passes.items) (sym c.restart.ensures.walker.1.0) e.held;
    }

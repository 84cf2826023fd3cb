use Rattle.std.proofs.Common.{refl, sym, subst, ap, length, arith}
use Rattle.machine_calls.specs.Disks.{stories_of, faults_of}
use Rattle.cluster_closing.specs.Ends.{HaveDisks}
use Rattle.cluster_closing.proofs.Laws.{no_disks_are_held}
use Rattle.cluster_runs.proofs.Ending.{none_fetched}
use Rattle.cluster_runs.proofs.closing.close_run.Goals as goal

pub close-requires-clause-fetched : goal.close-requires-clause-fetched
close-requires-clause-fetched g c =
    subst (λ fs. HaveDisks (stories_of g.H.Disk.Disk.story) (faults_of g.H.Disk.Disk.faults) c.args.walkers.items fs) (sym c.new.ensures.items)
    (no_disks_are_held _ _ _ (stories_of g.H.Disk.Disk.story) (faults_of g.H.Disk.Disk.faults) c.args.walkers.items (λ k d l. (c.requires.rest k d l).disks))

pub returns-clause-closed : goal.returns-clause-closed
returns-clause-closed g c =
    let e = c.close.ensures in
    record {
      len = (let k = c.close.result.ends.value.ok.0 in let l = e.len.0 in omega arith);
      shard_is = e.shard;
      noted = e.noted;
      passes = λ k d l. (c.requires.rest k d l).walker.walks.are_passes.count;
      seen = e.closed;
      journals_are = e.journals;
      founds_are = refl;
      lowest_down = e.down;
      no_stop = e.no_stop;
      no_restart = e.no_restart (λ k d l. (c.requires.rest k d l).fetched);
      legal = e.legal;
      disks = λ n d l. none_fetched _ n _ c.new.result.items _ _ _ _ (ap length c.new.ensures.items) (e.disks n d l);
      others = e.others;
    }

use Rattle.std.proofs.Common.{◌∙◌, sym, subst, ap, length, arith}
use Rattle.machine_calls.specs.Disks.{stories_of, faults_of}
use Rattle.cluster_closing.specs.Ends.{HaveDisks}
use Rattle.cluster_closing.proofs.Laws.{no_disks_are_held}
use Rattle.cluster_runs.proofs.Laws.{none_fetched}
use Rattle.session_examples.proofs.Ending.{by_any, legal_by}
use Rattle.session_examples.proofs.closing.close_all.Goals as goal

pub close-journals-requires-clause-fetched : goal.close-journals-requires-clause-fetched
close-journals-requires-clause-fetched g c =
    subst (λ fs. HaveDisks (stories_of g.H.Disk.Disk.story) (faults_of g.H.Disk.Disk.faults) c.args.walkers.items fs) (sym c.new.ensures.items)
    (no_disks_are_held _ _ _ (stories_of g.H.Disk.Disk.story) (faults_of g.H.Disk.Disk.faults) c.args.walkers.items (λ k d l. (c.requires.home k d l).disks))

pub returns-clause-closed : goal.returns-clause-closed
returns-clause-closed g c =
    λ rest.
    let e = c.close-journals.ensures in let ends = c.close-journals.result.ends.value in (
      ends.items,
      record {
        len = (let k = ends.ok.0 in let l = e.len.0 in omega arith);
        shard_is = e.shard;
        noted = e.noted;
        passes = λ k d l. (c.requires.home k d l).walker.walks.are_passes.count;
        seen = e.closed;
        journals_are = c.new-2.ensures.journals ∙ e.journals;
        founds_are = c.new-2.ensures.found ∙ c.requires.found;
        lowest_down = e.down;
        no_stop = e.no_stop;
        no_restart = e.no_restart (λ k d l. (rest k d l).fetched);
        legal = λ after many may. legal_by _ _ after _ _ _ _ c.new-2.ensures.journals (e.legal after many may);
        disks = λ n d l. none_fetched _ n _ c.new.result.items _ _ _ _ (ap length c.new.ensures.items) (e.disks n d l);
        others = e.others;
      },
    )

pub returns-clause-back : goal.returns-clause-back
returns-clause-back g c =
    let e = c.close-journals.ensures in let ends = c.close-journals.result.ends.value in let k = ends.ok.0 in let many = e.len.0 in
    λ n l. by_any _ ends.items n (omega arith) (λ d. (e.disks n d l).is_in)

pub returns-clause-others : goal.returns-clause-others
returns-clause-others g c = λ n l. (c.close-journals.ensures.others n l).1

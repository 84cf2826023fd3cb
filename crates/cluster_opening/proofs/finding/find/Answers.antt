use Rattle.std.proofs.Common.{◌∙◌, ap, sym}
use Rattle.clv_base.specs.LogRules.{upto_of, disorder}
use Rattle.law_base.proofs.Places.{spelled_plain}
use Rattle.machine_calls.specs.Disks.{stories_of}
use Rattle.cluster_opening.proofs.OneDisk.{told_own, faults_refuse, refused_as}
use Rattle.cluster_opening.proofs.finding.find.Goals as goal

-- its records have a spelling
pub judge-requires : goal.judge-requires
judge-requires g c = record { plain = ap upto_of c.deref.ensures.value ∙ spelled_plain c.in-Ok.log.items c.in-Ok.ensures.spelled }

pub returns-in-Ok-judge-clause-found : goal.returns-in-Ok-judge-clause-found
returns-in-Ok-judge-clause-found g c =
    let found = c.in-Ok.ensures in
    record {
      holds = record {
        in_order = ap (disorder c.args.shard) (sym c.deref.ensures.value) ∙ c.in-Ok-judge.ensures.fine.1;
        fits = found.fits;
        spelled = found.spelled;
        told = told_own c.args.shard _ c.in-Ok.header.splits c.in-Ok.log.items (stories_of g.D.Disk.story c.args.sides) c.in-Ok-judge.ensures.fine.0 found.found;
        read_as = found.before;
      };
      is_open = found.opened.0;
      shard = found.opened.1;
      fine = found.faults ∙ c.requires.fine;
      log_is = found.log;
      header = found.header;
      unchanged = found.unchanged;
    }

pub returns-in-Err-judge-clause-refused : goal.returns-in-Err-judge-clause-refused
returns-in-Err-judge-clause-refused g c =
    faults_refuse c.args.shard _ c.in-Ok.header.splits c.in-Ok.log.items (stories_of g.D.Disk.story c.args.sides) c.in-Ok.ensures.found c.in-Err-judge.error (rw c.deref.ensures.value at c.in-Err-judge.ensures.fault)

pub returns-in-Err-clause-refused : goal.returns-in-Err-clause-refused
returns-in-Err-clause-refused g c = refused_as c.args.shard _ (stories_of g.D.Disk.story c.args.sides) c.in-Err.error c.told_as.result c.told_as.ensures c.in-Err.ensures.not_log

use Rattle.std.proofs.Common.{None, refl}
use Rattle.io_model.specs.Sides.{sides_told}
use Rattle.cluster_runs.specs.Histories.{entries}
use Rattle.clv_commands.proofs.Endings.{ended_so}
use Rattle.clv_commands.proofs.running.run.Goals as goal

pub returns-in-Ok-ran-clause-disks : goal.returns-in-Ok-ran-clause-disks
returns-in-Ok-ran-clause-disks g c =
    let story = g.H.House.story in let faults = g.H.House.faults in let h0 = c.args.house.now in let h1 = c.run_script-ran.new.house in
    (ended_so (sides_told (story h0)) (sides_told (story h1)) (faults h0) (faults h1) _ _ _ c.in-Ok-ran.ran.history None 0 0 c.in-Ok-ran.ran.status c.write_report.result c.in-Ok-ran.ensures.ran c.write_report.ensures.ends refl).disks

pub returns-in-Ok-ran-clause-took : goal.returns-in-Ok-ran-clause-took
returns-in-Ok-ran-clause-took g c =
    let kept = c.in-Ok-ran.ran.history in let promised = c.in-Ok-ran.ensures.ran.promised in let books = c.in-Ok-ran.ensures.books in
    c.write_report.ensures.took c.in-Ok-ran.ensures.ran.splits kept.found (entries kept) promised.keeps.left (record { legal = promised.keeps.legal.legal; kept = books.kept; no_other = books.no_other })

pub returns-in-Ok-ran-clause-sink : goal.returns-in-Ok-ran-clause-sink
returns-in-Ok-ran-clause-sink g c = c.write_report.ensures.cause c.in-Ok-ran.ran.history

use Rattle.machine_calls.specs.Disks.{stories_of, faults_of}
use Rattle.cluster_closing.proofs.Homing.{fetched_are_held}
use Rattle.cluster_closing.proofs.promises.fetched_are_held.Goals as goal

pub returns : goal.returns
returns g c = fetched_are_held _ (stories_of g.D.Disk.story) (faults_of g.D.Disk.faults)

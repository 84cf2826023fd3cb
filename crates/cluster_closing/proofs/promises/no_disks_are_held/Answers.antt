use Rattle.machine_calls.specs.Disks.{stories_of, faults_of}
use Rattle.cluster_closing.proofs.Homing.{no_disks_are_held}
use Rattle.cluster_closing.proofs.promises.no_disks_are_held.Goals as goal

pub returns : goal.returns
returns g c = no_disks_are_held _ _ _ (stories_of g.D.Disk.story) (faults_of g.D.Disk.faults)

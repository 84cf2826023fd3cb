use Rattle.machine_calls.specs.Disks.{stories_of, faults_of}
use Rattle.cluster_closing.proofs.Homing.{disks_are_found}
use Rattle.cluster_closing.proofs.promises.disks_are_found.Goals as goal

pub returns : goal.returns
returns g c = disks_are_found _ _ g.G.Gate.is_shut g.G.Gate.faults g.G.Gate.shard g.G.Gate.logs (stories_of g.D.Disk.story) (faults_of g.D.Disk.faults)

use Rattle.cluster_runs.proofs.Scripted.{members_are_of_script}
use Rattle.cluster_runs.proofs.members.members_are_of_script.Goals as goal

pub returns : goal.returns
returns c = members_are_of_script

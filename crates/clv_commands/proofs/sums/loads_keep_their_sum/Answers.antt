use Rattle.clv_commands.proofs.Summing.{loads_keep}
use Rattle.clv_commands.proofs.sums.loads_keep_their_sum.Goals as goal

pub returns : goal.returns
returns c = loads_keep c.members_are_of_script.ensures c.runs_replay.ensures c.workloads_keep_their_sum.ensures

use Rattle.workload_laws.proofs.Keeping.{workloads_keep}
use Rattle.workload_laws.proofs.workloads_keep_their_sum.Goals as goal

pub returns : goal.returns
returns c = workloads_keep c.transfers_keep_to_accounts.ensures

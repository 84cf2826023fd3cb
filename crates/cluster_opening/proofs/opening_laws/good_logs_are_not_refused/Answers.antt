use Rattle.cluster_opening.proofs.Accepting.{good_logs_are_not_refused}
use Rattle.cluster_opening.proofs.opening_laws.good_logs_are_not_refused.Goals as goal

pub returns : goal.returns
returns c = good_logs_are_not_refused

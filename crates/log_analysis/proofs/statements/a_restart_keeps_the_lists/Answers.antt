use Rattle.log_analysis.proofs.Restarting.{keeps_doubt, keeps_homes, keeps_pairs, keeps_unended}
use Rattle.log_analysis.proofs.statements.a_restart_keeps_the_lists.Goals as goal

pub returns : goal.returns
returns c = record { in_doubt = keeps_doubt; homes = keeps_homes; pairs = keeps_pairs; unended = keeps_unended }

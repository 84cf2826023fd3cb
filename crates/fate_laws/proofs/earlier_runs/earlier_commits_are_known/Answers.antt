use Rattle.fate_laws.proofs.EarlierRuns.EarlierFatesAreKnown.{earlier_commits_are_known}
use Rattle.fate_laws.proofs.earlier_runs.earlier_commits_are_known.Goals as goal

pub returns : goal.returns
returns c = earlier_commits_are_known

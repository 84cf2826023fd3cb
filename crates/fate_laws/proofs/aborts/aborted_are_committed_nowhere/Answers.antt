use Rattle.fate_laws.proofs.AbortedAreCommittedNowhere.{aborted_are_committed_nowhere}
use Rattle.fate_laws.proofs.aborts.aborted_are_committed_nowhere.Goals as goal

pub returns : goal.returns
returns c = aborted_are_committed_nowhere

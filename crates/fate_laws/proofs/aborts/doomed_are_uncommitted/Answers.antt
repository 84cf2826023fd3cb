use Rattle.fate_laws.proofs.AbortedAreCommittedNowhere.{doomed_are_uncommitted}
use Rattle.fate_laws.proofs.aborts.doomed_are_uncommitted.Goals as goal

pub returns : goal.returns
returns c = doomed_are_uncommitted

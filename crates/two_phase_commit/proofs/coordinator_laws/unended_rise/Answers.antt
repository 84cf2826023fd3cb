use Rattle.two_phase_commit.proofs.Spelling.{unended_are_named}
use Rattle.two_phase_commit.proofs.Unended.{unended_rise}
use Rattle.two_phase_commit.proofs.coordinator_laws.unended_rise.Goals as goal

pub returns-clause-rise : goal.returns-clause-rise
returns-clause-rise c = unended_rise

pub returns-clause-named : goal.returns-clause-named
returns-clause-named c = unended_are_named

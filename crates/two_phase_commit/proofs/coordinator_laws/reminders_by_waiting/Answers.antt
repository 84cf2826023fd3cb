use Rattle.two_phase_commit.proofs.Silent.{reminders_by_waiting}
use Rattle.two_phase_commit.proofs.coordinator_laws.reminders_by_waiting.Goals as goal

pub returns : goal.returns
returns c = reminders_by_waiting

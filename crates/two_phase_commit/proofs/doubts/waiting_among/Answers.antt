use Rattle.two_phase_commit.proofs.Waiting.{waiting_among}
use Rattle.two_phase_commit.proofs.doubts.waiting_among.Goals as goal

pub returns : goal.returns
returns c = waiting_among

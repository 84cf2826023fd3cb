use Rattle.two_phase_commit.proofs.Doubtful.{doubtful_rise}
use Rattle.two_phase_commit.proofs.doubts.doubtful_rise.Goals as goal

pub returns : goal.returns
returns c = doubtful_rise

use Rattle.crash_laws.proofs.ActsReplay.{acts_replay}
use Rattle.crash_laws.proofs.act.acts_replay.Goals as goal

pub returns : goal.returns
returns c = acts_replay

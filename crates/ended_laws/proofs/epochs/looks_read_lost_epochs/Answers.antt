use Rattle.ended_laws.proofs.Losing.{looks_read_lost_epochs}
use Rattle.ended_laws.proofs.epochs.looks_read_lost_epochs.Goals as goal

pub returns : goal.returns
returns c = looks_read_lost_epochs

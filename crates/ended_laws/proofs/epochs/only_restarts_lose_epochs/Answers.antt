use Rattle.ended_laws.proofs.Losing.{only_restarts_lose_epochs}
use Rattle.ended_laws.proofs.epochs.only_restarts_lose_epochs.Goals as goal

pub returns : goal.returns
returns c = only_restarts_lose_epochs

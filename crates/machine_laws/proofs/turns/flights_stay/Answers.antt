use Rattle.machine_laws.proofs.Turning.{still_flying}
use Rattle.machine_laws.proofs.turns.flights_stay.Goals as goal

pub returns : goal.returns
returns c = still_flying

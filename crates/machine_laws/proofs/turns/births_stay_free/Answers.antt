use Rattle.machine_laws.proofs.Turning.{still_free}
use Rattle.machine_laws.proofs.turns.births_stay_free.Goals as goal

pub returns : goal.returns
returns c = still_free

use Rattle.crash_laws.proofs.WorldsKeepPromise.{logs_stay_in_order}
use Rattle.crash_laws.proofs.run_worlds.logs_stay_in_order.Goals as goal

pub returns : goal.returns
returns c = logs_stay_in_order

use Rattle.crash_laws.proofs.WorldsKeepPromise.{worlds_keep_promise}
use Rattle.crash_laws.proofs.run_worlds.worlds_keep_promise.Goals as goal

pub returns : goal.returns
returns c = worlds_keep_promise

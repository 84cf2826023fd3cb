use Rattle.headline_laws.proofs.Promise.{promise}
use Rattle.headline_laws.proofs.statements.promise.Goals as goal

pub returns : goal.returns
returns c = promise

use Rattle.headline_laws.proofs.ReadersPass.{readers_never_fell}
use Rattle.headline_laws.proofs.reader.readers_never_fell.Goals as goal

pub returns : goal.returns
returns c = readers_never_fell

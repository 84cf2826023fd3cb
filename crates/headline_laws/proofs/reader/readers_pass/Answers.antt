use Rattle.headline_laws.proofs.ReadersPass.{readers_pass}
use Rattle.headline_laws.proofs.reader.readers_pass.Goals as goal

pub returns : goal.returns
returns c = readers_pass

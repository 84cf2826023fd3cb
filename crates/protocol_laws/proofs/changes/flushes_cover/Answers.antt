use Rattle.protocol_laws.proofs.FlushesCover.{flushes_cover}
use Rattle.protocol_laws.proofs.changes.flushes_cover.Goals as goal

pub returns : goal.returns
returns c = flushes_cover

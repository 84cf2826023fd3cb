use Rattle.protocol_laws.proofs.PurgesDontMatter.{purges_dont_matter}
use Rattle.protocol_laws.proofs.changes.purges_dont_matter.Goals as goal

pub returns : goal.returns
returns c = purges_dont_matter

use Rattle.protocol_laws.proofs.ChangesKeepSpelling.{closings_keep}
use Rattle.protocol_laws.proofs.spelling.closings_keep.Goals as goal

pub returns : goal.returns
returns c = closings_keep

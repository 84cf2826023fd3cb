use Rattle.protocol_laws.proofs.ChangesKeepSpelling.{operations_keep}
use Rattle.protocol_laws.proofs.spelling.operations_keep.Goals as goal

pub returns : goal.returns
returns c = operations_keep

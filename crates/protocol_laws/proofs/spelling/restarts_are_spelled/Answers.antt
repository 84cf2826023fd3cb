use Rattle.protocol_laws.proofs.ChangesKeepSpelling.{restarts_are_spelled}
use Rattle.protocol_laws.proofs.spelling.restarts_are_spelled.Goals as goal

pub returns : goal.returns
returns c = restarts_are_spelled

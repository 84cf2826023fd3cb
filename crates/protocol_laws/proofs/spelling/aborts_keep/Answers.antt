use Rattle.protocol_laws.proofs.ChangesKeepSpelling.{aborts_keep, drops_keep, rolls_keep}
use Rattle.protocol_laws.proofs.spelling.aborts_keep.Goals as goal

pub returns-clause-aborts : goal.returns-clause-aborts
returns-clause-aborts c = aborts_keep

pub returns-clause-drops : goal.returns-clause-drops
returns-clause-drops c = drops_keep

pub returns-clause-rolls : goal.returns-clause-rolls
returns-clause-rolls c = rolls_keep

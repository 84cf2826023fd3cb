use Rattle.history_examples.proofs.Examples.{chain_causes}
use Rattle.history_examples.proofs.cascades.chain_has_its_causes.Goals as goal

pub returns : goal.returns
returns c = chain_causes

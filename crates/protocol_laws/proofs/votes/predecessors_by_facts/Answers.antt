use Rattle.protocol_laws.proofs.PredecessorsByFacts.{predecessors_by_facts}
use Rattle.protocol_laws.proofs.votes.predecessors_by_facts.Goals as goal

pub returns : goal.returns
returns c = predecessors_by_facts

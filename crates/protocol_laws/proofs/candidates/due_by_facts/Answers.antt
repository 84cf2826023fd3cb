use Rattle.protocol_laws.proofs.Due.DueByFacts.{due_by_facts}
use Rattle.protocol_laws.proofs.candidates.due_by_facts.Goals as goal

pub returns : goal.returns
returns c = due_by_facts

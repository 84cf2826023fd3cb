use Rattle.ended_laws.proofs.Worked.{an_ended_commit_is_spent}
use Rattle.ended_laws.proofs.examples.an_ended_commit_is_spent.Goals as goal

pub returns : goal.returns
returns c = an_ended_commit_is_spent

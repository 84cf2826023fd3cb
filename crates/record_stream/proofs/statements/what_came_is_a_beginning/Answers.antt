use Rattle.record_stream.proofs.Laws.Coming.{came_begins}
use Rattle.record_stream.proofs.statements.what_came_is_a_beginning.Goals as goal

pub returns : goal.returns
returns c = λ records tail bytes a. came_begins records tail bytes a
